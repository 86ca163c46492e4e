-- The listing's text, one law for each way that the code goes: a call's line and what follows it, the first line, the lines of refused and of longer
-- input, and how long a line is at most. Assumes nothing.
use Prim.Native.Nat.{ℕ, zero, suc, ◌+◌, ◌-◌, ◌≤◌, ◌<◌}
use native.Mathlib.Omega.{arith}
use native.Mathlib.Nat.{eq-zero-or-pos}
use native.Mathlib.Decide.{ℕ_discrete}
use native.Mathlib.Numerals.{sub-one}
use mathlib.Core.Logic.{⊎_elim}
use mathlib.Core.Path.{◌≡◌, refl, sym, ap, ◌∙◌}
use mathlib.Core.List.{List, [], ◌∷◌, ◌++◌, append_assoc, append-nil}
use lib.ListN.{length, take, length-replicate}
use borrow.Author.Tests.{lt-ltb, le-ltb}
use Rattle.laws.specs.Lists.{Placed}
use Rattle.laws.proofs.PlacedLaws.{placed-length, placed-front}
use Rattle.laws.proofs.ListLaws.{put-nil}
use Rattle.keys.specs.TwoWords.{number_of}
use Rattle.refusals.specs.declared.Refusal.{Refusal}
use Rattle.refusals.specs.Refusals.{number}
use Rattle.refusals.proofs.RefusalLaws.{number-some}
use Rattle.tables.specs.declared.Catalogue.{Catalogue}
use Rattle.tables.specs.Sizes.{most_attributes, most_cells}
use Rattle.tables.specs.Catalogues.{total}
use Rattle.tables.specs.Checks.{Lawful}
use Rattle.loader.specs.Faults.{Fault, Verdict, Good, Refused, Loaded}
use Rattle.loader.specs.Load.{scan_of, Loads}
use Rattle.disjunction.specs.Asked.{Asked}
use Rattle.machine.specs.Machine.{State, Says, a_set, finished, working, refused, Called, call, Opened, opening_for}
use Rattle.machine.proofs.CountLaws.{Small, call-small}
use Rattle.store.specs.declared.Store.{Store}
use Rattle.stream.specs.declared.Scope.{Scope}
use Rattle.stream.specs.declared.StreamRecord.{StreamRecord}
use Rattle.stream.specs.declared.Stepped.{Stepped}
use Rattle.stream.specs.declared.Opened as stream
use Rattle.stream.specs.Promises.{asked_of, says_of}
use Rattle.stream.specs.Parts.{stream_in, called_in, opened_for}
use Rattle.lines.specs.Lines.{tables_line, refused_line, too_long, bytes}
use Rattle.lines.proofs.LineLaws.{line-few, set-few}
use Rattle.std.specs.Prelude.{Option}
use Rattle.std.proofs.Common.{Some, None, Ok, Err}
use Rattle.tables.specs.declared.Tables.{Tables}
use Rattle.lister.specs.declared.Standing.{Standing}
use Rattle.stream.specs.Answers.{answer_in, key_in}
use Rattle.lister.specs.Listing.{most_input, most_records, blank, most_calls, most_line, line_of, left_of, further, unless_refused, lines_of, tables_text, verdict_text, image_text, listing_of, to_come, calls_in, text_from, Ready, Lines, Gives, Printing}

pub blank-length : (k : ℕ) → length (blank k) ≡ k
unfolding blank
blank-length k = length-replicate k 0

-- ---- what is placed at the end of the buffer

-- Behind what the buffer holds a line is put: with what is still to come, the text is what it was.
behind : {bs lent after : List ℕ} {a n : ℕ} (rest : List ℕ) → a + length bs ≤ length lent → Placed bs a lent n after
    → take n after ++ rest ≡ take a lent ++ (bs ++ rest)
behind {bs} {lent} {after} {a} {n} rest h p = rw (placed-front h p) (append_assoc (take a lent) bs rest)

-- A text that is all there is.
pub whole : {bs lent after : List ℕ} {n : ℕ} → length bs ≤ length lent → Placed bs 0 lent n after → take n after ++ [] ≡ bs
whole {bs} h p = behind [] (omega arith) p ∙ append-nil bs

-- ---- a call

-- An answer leaves no more calls than there are.
pub left-few : (a : Says) (k : ℕ) → left_of a k ≤ k
left-few a_set k = omega arith
left-few finished k = omega arith
left-few working k = omega arith
left-few (refused r) k = omega arith

goes_on : (k : ℕ) (text : List ℕ) → k ≡ 0 → unless_refused k text ≡ text
goes_on k text e = rw e

stops : (k : ℕ) (text : List ℕ) → 0 < k → unless_refused k text ≡ refused_line (k ∷ [])
stops zero text h = absurd (omega arith)
stops (suc k) text h = refl

module _ (cat : Catalogue) (cells : List ℕ) where
  pub lines_none : (k : ℕ) (q : State) (row : List ℕ) (a t l : ℕ) → k ≡ 0 → lines_of cat cells k q row a t l ≡ []
  unfolding lines_of
  lines_none k q row a t l e = rw e

  further-left : (x : Says) (k : ℕ) (q : State) (row : List ℕ) (a t l : ℕ) → further x (lines_of cat cells k q row a t l) ≡ lines_of cat cells (left_of x k) q row a t l
  unfolding lines_of
  further-left a_set k q row a t l = refl
  further-left finished k q row a t l = refl
  further-left working k q row a t l = refl
  further-left (refused r) k q row a t l = refl

  lines_more : (k : ℕ) (q : State) (row : List ℕ) (a t l : ℕ) (s : Called) → 0 < k → s ≡ call cat cells (total cat) q row
      → lines_of cat cells k q row a t l
      ≡ line_of cat s.says s.key s.row s.after.taken (a + s.trials) (t + s.tests) (l + s.looks)
      ++ lines_of cat cells (left_of s.says (k - 1)) s.after s.row (a + s.trials) (t + s.tests) (l + s.looks)
  unfolding lines_of
  lines_more zero q row a t l s z e = absurd (omega arith)
  lines_more (suc k) q row a t l s z e =
      let c = call cat cells (total cat) q row in
      rw (e, sub-one (suc k), further-left c.says k c.after c.row (a + c.trials) (t + c.tests) (l + c.looks))

  -- Whatever is called, its line fits the room that is kept for a line.
  pub line-short : (lent : ℕ) (x : Says) (key : ℕ) (row : List ℕ) (taken a t l : ℕ) → Lawful cat lent → length row ≡ most_attributes
      → length (line_of cat x key row taken a t l) ≤ most_line
  line-short lent a_set key row taken a t l w e = omega (arith, set-few cat.n key cat.m row (omega (arith, w.attributes)), w.attributes, w.tables)
  line-short lent finished key row taken a t l w e = omega (arith, line-few (bytes "end") (taken ∷ a ∷ t ∷ l ∷ []))
  line-short lent working key row taken a t l w e = omega arith
  line-short lent (refused r) key row taken a t l w e = omega (arith, line-few (bytes "refused") (r ∷ taken ∷ []))

  -- The line of a call is put, and what is still to come behind it comes: the text is what it was.
  pub turned : (lent' : ℕ) {at n : ℕ} {lent after : List ℕ} (k : ℕ) (q : State) (row : List ℕ) (a t l : ℕ) (s : Called) → 0 < k → s ≡ call cat cells (total cat) q row
      → Lawful cat lent' → length s.row ≡ most_attributes → at + most_line ≤ length lent
      → Placed (line_of cat s.says s.key s.row s.after.taken (a + s.trials) (t + s.tests) (l + s.looks)) at lent n after
      → take n after ++ lines_of cat cells (left_of s.says (k - 1)) s.after s.row (a + s.trials) (t + s.tests) (l + s.looks)
      ≡ take at lent ++ lines_of cat cells k q row a t l
  turned lent' {at} {n} {lent} {after} k q row a t l s z e w f h p =
      let b = line-short lent' s.says s.key s.row s.after.taken (a + s.trials) (t + s.tests) (l + s.looks) w f in
      behind (lines_of cat cells (left_of s.says (k - 1)) s.after s.row (a + s.trials) (t + s.tests) (l + s.looks)) (omega arith) p
      ∙ ap (λ (rest : List ℕ). take at lent ++ rest) (sym (lines_more k q row a t l s z e))

  -- The text behind an open that gave o.
  module _ (a : Asked) (o : Opened) (e : o ≡ opening_for cat cells a (blank most_records) (blank most_records) (blank most_records) (blank most_records)) where
    abbrev rest : List ℕ
    rest = lines_of cat cells most_calls o.after (blank most_attributes) 0 0 0

    abbrev all : List ℕ
    all = tables_line cat.m cat.n (total cat) o.tests ++ rest

    text_of : tables_text cat cells a ≡ unless_refused o.refusal all
    unfolding tables_text
    text_of = rw e

    -- It is not refused: the first line, and the sets.
    pub text-opened : o.refusal ≡ 0 → tables_text cat cells a ≡ all
    text-opened z = text_of ∙ goes_on o.refusal all z

    -- It is: the refusal's line is all the text.
    pub text-refused : 0 < o.refusal → tables_text cat cells a ≡ refused_line (o.refusal ∷ [])
    text-refused z = text_of ∙ stops o.refusal all z

    -- The first line is put, and the sets are still to come.
    pub opened : {n : ℕ} {lent after : List ℕ} → o.refusal ≡ 0
        → most_line ≤ length lent → Placed (tables_line cat.m cat.n (total cat) o.tests) 0 lent n after → take n after ++ rest ≡ tables_text cat cells a
    opened z h p =
        let b = line-few (bytes "tables") (cat.m ∷ cat.n ∷ total cat ∷ o.tests ∷ []) in
        behind rest (omega arith) p ∙ sym (text-opened z)

-- ---- the list after a call, which can go on

-- Whatever equals what a call gives has small counts.
pub said-small : (cat : Catalogue) (cells row : List ℕ) (b : ℕ) (q : State) (s : Called) → s ≡ call cat cells b q row → Small s
said-small cat cells row b q s e = rw e (call-small cat cells row b q)

-- A call was made on a list that can go on, and its line put behind what the buffer held.
module _ (p : Standing) (store : Store) (row out : List ℕ) (store' : Store) (row' out' : List ℕ) (r : Stepped StreamRecord) (at k n : ℕ)
    (w : Ready p row)
    (room : at + most_line ≤ length out)
    (wide : length row' ≡ length row)
    (called : called_in (asked_of p.scope) r store' row' ≡ call p.tables.catalogue p.tables.cells.now (total p.tables.catalogue) (stream_in (asked_of p.scope) p.stream store) row)
    (left_over : k ≡ left_of (says_of (answer_in r.answer)) (p.calls - 1))
    (line : Placed (line_of p.tables.catalogue (says_of (answer_in r.answer)) (number_of (key_in r.answer)) row' r.stream.taken (p.counts.trials + r.counts.trials) (p.counts.tests + r.counts.tests) (p.counts.looks + r.counts.looks)) at out n out')
  where
    abbrev next : Standing
    next =
        record {
          tables = p.tables;
          scope = p.scope;
          stream = r.stream;
          counts = record { trials = p.counts.trials + r.counts.trials; tests = p.counts.tests + r.counts.tests; looks = p.counts.looks + r.counts.looks };
          calls = k;
        }

    abbrev s : Called
    s = called_in (asked_of p.scope) r store' row'

    goes : 0 < k → Ready next row'
    goes h =
        let u = said-small p.tables.catalogue p.tables.cells.now row (total p.tables.catalogue) (stream_in (asked_of p.scope) p.stream store) s called in
        let v = left-few (says_of (answer_in r.answer)) (p.calls - 1) in
        record {
          some = h;
          wide = wide ∙ w.wide;
          calls = omega (arith, w.calls);
          trials = omega (arith, w.some, w.calls, w.trials, u.trials);
          tests = omega (arith, w.some, w.calls, w.tests, u.tests);
          looks = omega (arith, w.some, w.calls, w.looks, u.looks);
        }

    kept : take n out' ++ to_come next store' row' ≡ take at out ++ to_come p store row
    kept = rw left_over (turned p.tables.catalogue p.tables.cells.now (length p.tables.cells.now) p.calls (stream_in (asked_of p.scope) p.stream store) row p.counts.trials p.counts.tests p.counts.looks s w.some called p.tables.lawful (wide ∙ w.wide) room line)

    fits : n ≤ length out'
    fits =
        let h = line-short p.tables.catalogue p.tables.cells.now (length p.tables.cells.now) s.says s.key s.row s.after.taken (p.counts.trials + s.trials) (p.counts.tests + s.tests) (p.counts.looks + s.looks) p.tables.lawful (wide ∙ w.wide) in
        omega (arith, line.next, placed-length (omega arith) line)

    -- The list has ended, or it goes on.
    pub turn-ends : k ≡ 0 → Gives (take at out ++ to_come p store row) (record { filled = n; more = None }) store' row' out'
    turn-ends z =
        record {
          same = ap (λ (rest : List ℕ). take n out' ++ rest) (sym (lines_none p.tables.catalogue p.tables.cells.now k (stream_in (asked_of p.scope) r.stream store') row' _ _ _ z)) ∙ kept;
          filled = fits;
          ready = tt;
        }

    pub turn-goes : (k ≡ 0 → ⊥) → Gives (take at out ++ to_come p store row) (record { filled = n; more = Some next }) store' row' out'
    turn-goes z = record { same = kept; filled = fits; ready = goes (omega (arith, z)) }

    fewer : k < p.calls
    fewer = omega (arith, left-few (says_of (answer_in r.answer)) (p.calls - 1), w.some)

    -- In both, a call less is left at least, and what the buffer holds and what is still to come stay the same text.
    pub turn-gives : (more : Option Standing) → (k ≡ 0 → more ≡ None) → ((k ≡ 0 → ⊥) → more ≡ Some next)
        → (calls_in more < p.calls) × Gives (take at out ++ to_come p store row) (record { filled = n; more = more }) store' row' out'
    turn-gives more e f =
        elim (ℕ_discrete k 0) [
          | yes z ↦ rw (e z) (w.some, turn-ends z)
          | no z ↦ rw (f z) (fewer, turn-goes z)
        ]

-- What a list gives that gives a text, gives that text.
pub gives-on : {text : List ℕ} {f : ℕ} {p : Standing} {s : Lines} {row out row' out' : List ℕ} {store store' : Store}
    → Gives text (record { filled = f; more = Some p }) store row out
    → Gives (take f out ++ to_come p store row) s store' row' out' → Gives text s store' row' out'
gives-on g h = record { same = h.same ∙ g.same; filled = h.filled; ready = h.ready }

-- Tables were loaded and opened, and the first line put into the buffer.
pub open_gives : {n : ℕ} {lent after : List ℕ} (v : Scope) (tables : Tables) (store : Store) (o : stream.Opened StreamRecord)
    → opened_for (asked_of v) (Ok o) store.low.now store.high.now store.left.now store.right.now ≡ opening_for tables.catalogue tables.cells.now (asked_of v) (blank most_records) (blank most_records) (blank most_records) (blank most_records)
    → most_line ≤ length lent → Placed (tables_line tables.catalogue.m tables.catalogue.n (total tables.catalogue) o.tests) 0 lent n after
    → Gives (tables_text tables.catalogue tables.cells.now (asked_of v)) (record { filled = n; more = Some (record { tables = tables; scope = v; stream = o.stream; counts = record { trials = 0; tests = 0; looks = 0 }; calls = most_calls }) }) store (blank most_attributes) after
open_gives {n} {lent} {after} v tables store o e h p =
    let cat = tables.catalogue in
    let b = line-few (bytes "tables") (cat.m ∷ cat.n ∷ total cat ∷ o.tests ∷ []) in
    record {
      same = opened cat tables.cells.now (asked_of v) (opened_for (asked_of v) (Ok o) store.low.now store.high.now store.left.now store.right.now) e refl h p;
      filled = omega (arith, p.next, placed-length (omega arith) p);
      ready = record { some = omega arith; wide = blank-length most_attributes; calls = omega arith; trials = omega arith; tests = omega arith; looks = omega arith };
    }

-- All of a text is in the buffer, and nothing is still to come.
pub ended-gives : {bs lent after : List ℕ} (store : Store) (row : List ℕ) (n : ℕ) → length bs ≤ length lent
    → Placed bs 0 lent n after → Gives bs (record { filled = n; more = None }) store row after
ended-gives {bs} {lent} {after} store row n h p =
    record { same = whole h p; filled = omega (arith, p.next, placed-length (omega arith) p); ready = tt }

-- Tables were loaded and not opened, and the line of the refusal put into the buffer.
pub refused-gives : {n : ℕ} {lent after : List ℕ} (v : Scope) (cat : Catalogue) (cells : List ℕ) (store : Store) (x : Refusal)
    → opened_for (asked_of v) (Err x) store.low.now store.high.now store.left.now store.right.now ≡ opening_for cat cells (asked_of v) (blank most_records) (blank most_records) (blank most_records) (blank most_records)
    → most_line ≤ length lent → Placed (refused_line (number x ∷ [])) 0 lent n after
    → Gives (tables_text cat cells (asked_of v)) (record { filled = n; more = None }) store (blank most_attributes) after
refused-gives {n} {lent} {after} v cat cells store x e h p =
    let f = line-few (bytes "refused") (number x ∷ []) in
    let z : 0 < number x = ⊎_elim (λ k. absurd (number-some x k)) (λ q. q) (eq-zero-or-pos (number x)) in
    rw (text-refused cat cells (asked_of v) (opened_for (asked_of v) (Err x) store.low.now store.high.now store.left.now store.right.now) e z)
    (ended-gives store (blank most_attributes) n (omega (arith, f)) p)

-- Nothing has been written yet.
pub printing-first : {text : List ℕ} {r : Lines} {store : Store} {row out : List ℕ} → Gives text r store row out
    → Printing (text_from r store row out) [] r store row out
printing-first g = record { whole = refl; filled = g.filled; ready = g.ready }

-- What the buffer held has been written, and it was filled again.
pub printing-next : {text w : List ℕ} {q r : Lines} {row out row' out' : List ℕ} {store store' : Store} (p : Standing) → q.more ≡ Some p
    → Printing text w q store row out → Gives (to_come p store row) r store' row' out'
    → Printing text (w ++ take q.filled out) r store' row' out'
printing-next {text} {w} {q} {r} {row} {out} p e i g =
    record {
      whole = append_assoc w (take q.filled out) _ ∙ ap (λ (rest : List ℕ). w ++ (take q.filled out ++ rest)) g.same ∙ rw e at i.whole;
      filled = g.filled;
      ready = g.ready;
    }

-- The line of a refused image fits.
pub refused-short : (k p : ℕ) → length (refused_line (k ∷ p ∷ [])) ≤ most_line
refused-short k p = omega (arith, line-few (bytes "refused") (k ∷ p ∷ []))

-- A call that puts nothing.
pub nothing : (a : ℕ) (o : List ℕ) → Placed [] a o a o
nothing a o = record { next = omega arith; bytes = sym (put-nil o a) }

-- ---- the input

module _ (a : Asked) where
  pub listing-long : (input : List ℕ) → most_input < length input → listing_of a input ≡ too_long
  unfolding listing_of
  listing-long input h = rw (lt-ltb most_input (length input) h)

  pub listing-short : (input : List ℕ) → length input ≤ most_input → listing_of a input ≡ image_text a input
  unfolding listing_of
  listing-short input h = rw (le-ltb most_input (length input) h)

  module _ {s lent after : List ℕ} (r : Loaded) (z : lent ≡ blank most_cells) (l : Loads s lent r after) where
    answer : r ≡ scan_of s most_cells
    answer = l.answer ∙ ap (λ (n : ℕ). scan_of s n) (ap length z ∙ blank-length most_cells)

    text : image_text a s ≡ verdict_text a r.verdict r.catalogue after
    unfolding image_text
    text = rw (← answer, ← z) (ap (λ (c : List ℕ). verdict_text a r.verdict r.catalogue c) (sym l.cells))

    pub image-good : r.verdict ≡ Good → image_text a s ≡ tables_text r.catalogue after a
    image-good e = text ∙ ap (λ (v : Verdict). verdict_text a v r.catalogue after) e

    pub image-refused : (f : Fault) → r.verdict ≡ Refused f → image_text a s ≡ refused_line (f.refusal ∷ f.place ∷ [])
    image-refused f e = text ∙ ap (λ (v : Verdict). verdict_text a v r.catalogue after) e
