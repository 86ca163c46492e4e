-- A refused load has given zeros, whichever check refused it; cells and bytes are as they were by the promises themselves. Assumes nothing.
use Prim.Native.Nat.{ℕ, zero, suc, ◌+◌}
use mathlib.Core.Path.{◌≡◌, refl, sym, ap, subst, ◌∙◌}
use mathlib.Core.Bool.{Bool, true, false, cond}
use mathlib.Core.List.{List}
use lib.ListN.{length, set, replicate}
use lib.Dec.{ltb}
use Rattle.tables.specs.declared.Catalogue.{Catalogue}
use Rattle.tables.specs.Sizes.{most_attributes, most_tables, version_one, version_two}
use Rattle.tables.specs.Versions.{needless}
use Rattle.loader.specs.Faults.{Fault, Field, Value, FieldFault, Entry, Table, TableFault, Verdict, Good, Refused, Loaded}
use Rattle.loader.specs.Reading.{refusal_at}
use Rattle.tables.specs.Catalogues.{filled, given, no_tables}
use Rattle.loader.specs.Load.{first_table, refused, field_at, on_field, table_at, on_entry, tables_end, tables_from, scan_of, tables_codes, cells_after}
use Rattle.disjunction.specs.Asked.{every_set}
use Rattle.machine.specs.Machine.{Called, Opened}
use Rattle.stream.specs.Promises.{state_of}
use Rattle.claims.specs.Unchanged.{Unchanged}
use Rattle.claims.proofs.Determined.{state-one}
use Rattle.claims.proofs.Exact.{demand1}

-- A refused load has a catalogue of zeros.
abbrev Zeroed : Verdict → Catalogue → Type 0
Zeroed Good cat = ◌≡◌ {A = ℕ} 0 0
Zeroed (Refused f) cat = cat ≡ no_tables

abbrev Zeroes : Loaded → Type 0
Zeroes r = Zeroed r.verdict r.catalogue

on-field : (f : Field) (go : ℕ → ℕ → Loaded) → ((x n : ℕ) → Zeroes (go x n)) → Zeroes (on_field f go)
on-field (Value x n) go h = h x n
on-field (FieldFault f) go h = refl

end-zero : (s : List ℕ) (v : ℕ) (cat : Catalogue) (i : ℕ) → Zeroes (tables_end s v cat i)
unfolding tables_end
end-zero s v cat i = by (ltb i (length s)) (needless v cat)
  where
    by : (a b : Bool) → Zeroes (cond a (refused (refusal_at 9 i 0)) (cond b (refused (refusal_at 20 0 0)) (record { verdict = Good; catalogue = filled cat })))
    by true b = refl
    by false true = refl
    by false false = refl

tables-zero : (k : ℕ) (s : List ℕ) (v room m n t used : ℕ) (xs cs : List ℕ) (i : ℕ) → Zeroes (tables_from k s v room m n t used xs cs i)
unfolding tables_from
tables-zero zero s v room m n t used xs cs i = end-zero s v (given m n xs cs) i
tables-zero (suc k) s v room m n t used xs cs i =
    by (λ x c u e. tables-zero k s v room m n (t + 1) u (set xs t x) (set cs t c) e) (table_at s v room m used i)
  where
    by : ((x c u e : ℕ) → Zeroes (tables_from k s v room m n (t + 1) u (set xs t x) (set cs t c) e)) → (o : Entry)
        → Zeroes (on_entry o (λ x c u e. tables_from k s v room m n (t + 1) u (set xs t x) (set cs t c) e) refused)
    by ih (Table x c u e) = ih x c u e
    by ih (TableFault f) = refl

scan-zero : (s : List ℕ) (room : ℕ) → Zeroes (scan_of s room)
unfolding scan_of
scan-zero s room =
    on-field (field_at s 0 version_one version_two 3) _ (λ v i.
    on-field (field_at s i 1 most_attributes 4) _ (λ m j.
    on-field (field_at s j 1 most_tables 4) _ (λ n k.
    tables-zero n s v room m n 0 0 (replicate 8 0) (replicate 8 0) k)))

pub scan-zeros : (s : List ℕ) (room : ℕ) (f : Fault) → (scan_of s room).verdict ≡ Refused f → (scan_of s room).catalogue ≡ no_tables
scan-zeros s room f e = subst (λ (v : Verdict). Zeroed v (scan_of s room).catalogue) e (scan-zero s room)

pub unchanged : Unchanged
unchanged =
    record {
      load = λ s lent after r f l e. (
        subst (λ (v : Verdict). Zeroed v r.catalogue) e (subst Zeroes (sym l.answer) (scan-zero s (length lent))),
        l.cells ∙ ap (λ (v : Verdict). cells_after v (tables_codes r.catalogue.n s first_table) lent) e,
      );
      write = λ cat cells lent after k w. w.bytes;
      «open» = λ cat cells low high left right o ks hs ls rs e n.
          let z = ((demand1 cat cells every_set).zeroed low high left right (λ f. n (ap (λ (x : Opened). x.refusal) e ∙ f))).0 in
          state-one every_set every_set o.stream (record { found = 0; taken = 0; next_row = 0 }) ks hs ls rs low high left right
          (ap (λ (x : Opened). x.after) e ∙ z);
      step = λ cat cells low high left right s b row r ks hs ls rs w e n.
          let d = e ∙ (demand1 cat cells every_set).refuses b (state_of s low high left right) row n in
          let (f, k, h, l, m) = state-one every_set every_set r.stream s ks hs ls rs low high left right (ap (λ (x : Called). x.after) d) in
          (f, k, h, l, m, ap (λ (x : Called). x.row) d);
    }
