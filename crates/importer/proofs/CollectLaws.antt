-- The rows of all lines: what is told once a line more is read, one law for each way; and the cells that they fill. Assumes nothing.
use Prim.Native.Nat.{ℕ, ◌+◌, ◌-◌, ◌≤◌, ◌<◌}
use native.Mathlib.Omega.{arith}
use mathlib.Core.Path.{◌≡◌, refl, sym, ◌∙◌}
use mathlib.Core.List.{List, [], ◌∷◌, ◌++◌}
use lib.ListN.{length, take, drop, get_or}
use lib.Seq.{length-take-le}
use borrow.Author.Tests.{lt-ltb}
use Rattle.laws.specs.Lists.{over, part}
use Rattle.laws.proofs.ListLaws.{put-nil, over-append}
use Rattle.order.proofs.PlaceLaws.{part-rest, part_end}
use Rattle.tables.specs.Sizes.{most_rows}
use Rattle.text.specs.declared.Form.TheVariants.{AtStart}
use Rattle.text.specs.Lines.{lines_from}
use Rattle.text.specs.Reading.{refused, insert, counted, rows_from, flat}
use Rattle.text.specs.Fields.{codes_at}
use Rattle.text.proofs.InsertLaws.{insert-long}
use Rattle.text.proofs.Fieldwise.{length-codes-at}
use Rattle.importer.specs.Answers.{BadLine, End, Faulty, Row}
use Rattle.importer.specs.Steps.{LineSays}
use Rattle.importer.specs.Kept.{rows_at, Keeps, Collects, Overfull}
use Rattle.importer.proofs.PlacesLaws.{rows_more, length-rows}

counted-6 : (room x w : ℕ) (kept : List (List ℕ)) → most_rows < length kept → counted room x w kept ≡ refused 6 0 0
unfolding counted
counted-6 room x w kept h = rw (lt-ltb most_rows (length kept) h)

-- ---- past the most rows

-- Lines were read to a place, and more rows are kept than a table may have, whichever they are.
pub record RestSoFar (w : ℕ) (s : List ℕ) (from first at l : ℕ) : Type 0 where
  pub told : (room x : ℕ) (kept : List (List ℕ)) → most_rows < length kept
      → (more : List (List ℕ)) × (most_rows < length more)
      × (rows_from room x w first kept (lines_from (drop from s) AtStart 0 []) ≡ rows_from room x w l more (lines_from (drop at s) AtStart 0 []))
  pub low : l ≤ at + 1
  pub most : at ≤ length s

module _ (w : ℕ) (s : List ℕ) (from first at l : ℕ) (so : RestSoFar w s from first at l) where
  pub rest-on : (n : ℕ) → LineSays w s at (Row n) → RestSoFar w s from first n (l + 1)
  rest-on n e =
      record {
        told = λ room x kept m.
            let (more, k, q) = so.told room x kept m in
            (insert (codes_at w s at) more, omega (arith, insert-long (codes_at w s at) more), q ∙ e.told room x l more);
        low = omega (arith, so.low, e.sizes);
        most = e.sizes.1;
      }

  pub rest_end : LineSays w s at End → Overfull w s from first (Faulty 6 0 0)
  rest_end e =
      record {
        told = λ room x kept after m.
            let (more, k, q) = so.told room x kept m in
            q ∙ e.told room x l more ∙ counted-6 room x w more k;
        sizes = tt;
      }

  pub rest-bad : (k f : ℕ) → LineSays w s at (BadLine k f) → Overfull w s from first (Faulty k l f)
  rest-bad k f e =
      record {
        told = λ room x kept after m.
            let (more, h, q) = so.told room x kept m in
            q ∙ e.told room x l more;
        sizes = tt;
      }

-- ---- all lines

-- Lines were read to a place, and the rows of n places are kept.
pub record CollectSoFar (w : ℕ) (s : List ℕ) (from : ℕ) (places : List ℕ) (at l n : ℕ) : Type 0 where
  pub told : (room x : ℕ) → rows_from room x w 2 [] (lines_from (drop from s) AtStart 0 []) ≡ rows_from room x w l (rows_at w s (take n places)) (lines_from (drop at s) AtStart 0 [])
  pub few : n ≤ most_rows
  pub low : l ≤ at + 1
  pub most : at ≤ length s

pub collect-start : (w : ℕ) (s : List ℕ) (from : ℕ) (places : List ℕ) → 1 ≤ from → from ≤ length s → CollectSoFar w s from places from 2 0
unfolding rows_at
collect-start w s from places h k = record { told = λ room x. refl; few = omega arith; low = omega arith; most = k }

module _ (w : ℕ) (s : List ℕ) (from : ℕ) (places : List ℕ) (at l n : ℕ) (so : CollectSoFar w s from places at l n) where
  module _ (next r : ℕ) (after : List ℕ) (e : LineSays w s at (Row next)) (k : Keeps w s places n at r after) where
    line-more : (room x : ℕ) → rows_from room x w 2 [] (lines_from (drop from s) AtStart 0 []) ≡ rows_from room x w (l + 1) (rows_at w s (take r after)) (lines_from (drop next s) AtStart 0 [])
    line-more room x = so.told room x ∙ e.told room x l (rows_at w s (take n places)) ∙ rw k.rows

    pub collect-over : {c : _} → most_rows < r → r ≤ length after → Overfull w s next (l + 1) c → Collects w s from c after
    collect-over h q o =
        record {
          told = λ room x. line-more room x ∙ o.told room x (rows_at w s (take r after)) after (omega (arith, length-rows w s (take r after), length-take-le r after q));
          sizes = o.sizes;
        }

-- ---- the cells

-- The rows from place u on are left to be put from cell k on.
abbrev pub left_over : (w : ℕ) (s places : List ℕ) (n u k : ℕ) → List ℕ → List ℕ
left_over w s places n u k o = over k (flat (rows_at w s (part u (n - u) places))) o

flat-more : (r : List ℕ) (rows : List (List ℕ)) → flat (r ∷ rows) ≡ r ++ flat rows
unfolding flat
flat-more r rows = refl

flat-none : (w : ℕ) (s : List ℕ) → flat (rows_at w s []) ≡ []
unfolding flat rows_at
flat-none w s = refl

pub fill-next : (w : ℕ) (s places : List ℕ) (n u k : ℕ) (o : List ℕ) → u < n → n ≤ length places → k ≤ length o
    → left_over w s places n u k o ≡ left_over w s places n (u + 1) (k + w) (over k (codes_at w s (get_or places u 0)) o)
fill-next w s places n u k o h l m =
    let p = get_or places u 0 in
    let rest = part (u + 1) (n - (u + 1)) places in
    rw (part-rest u n places h l, rows_more w s p rest, flat-more (codes_at w s p) (rows_at w s rest))
    (sym (over-append k (k + w) (codes_at w s p) (flat (rows_at w s rest)) o m (rw (length-codes-at w s p))))

pub fill_none : (w : ℕ) (s places : List ℕ) (n u k : ℕ) (o : List ℕ) → n ≤ u → left_over w s places n u k o ≡ o
fill_none w s places n u k o h = rw (part_end u n places h, flat-none w s) (put-nil o k)
