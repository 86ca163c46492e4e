-- The image of accepted tables in another order is loaded, and gives these tables back: what is written of them is accepted, and a reordered catalogue has
-- zeros from n on, as after a load. Assumes nothing.
use Prim.Native.Nat.{ℕ, ◌-◌, ◌+◌, ◌≤◌, ◌<◌}
use native.Mathlib.Omega.{arith}
use native.Mathlib.Decide.{dec_lt}
use mathlib.Core.Path.{◌≡◌, sym, ap, ap₂, subst, ◌∙◌}
use mathlib.Core.List.{List, [], ◌++◌, append-nil}
use lib.ListN.{length, get_or, take, replicate, length-append, length-replicate, get_or-replicate, drop_of_length-le, get_or-append}
use lib.Seq.{length-take-le, get_or-take, get_or-append-add, ext_get_or, take-length}
use Rattle.laws.specs.Lists.{put}
use Rattle.tables.specs.declared.Catalogue.{Catalogue}
use Rattle.tables.specs.Sizes.{most_tables}
use Rattle.tables.specs.Catalogues.{scheme_of, count_of, first_cell, for_tables, filled, given}
use Rattle.tables.proofs.StoredLaws.{for-long, for-past}
use Rattle.loader.specs.Faults.{Loaded}
use Rattle.loader.specs.Load.{Loads}
use Rattle.writer.specs.Write.{image_of, Accepted}
use Rattle.writer.proofs.AcceptLaws.{accepted-fault}
use Rattle.image.specs.RoundTrip.{front, trimmed, found}
use Rattle.image.proofs.RoundTrip.{loads-written}
use Rattle.facts.specs.Filing.{Renumbering, reordered, reordered_cells, reordered_in}
use Rattle.facts.proofs.OrderLaws.{cells-moved, reordered-long, moved-accepted}

-- A list with a place for each table has zeros from n on.
front-for : (n : ℕ) (f : ℕ → ℕ) → n ≤ most_tables → front n (for_tables n f) ≡ for_tables n f
unfolding front
front-for n f h =
    ext_get_or 0 (take n all ++ zeros) all (long ∙ sym (for-long n f)) (λ u b. go u (rw long at b) (dec_lt u n))
  where
    all : List ℕ
    all = for_tables n f

    zeros : List ℕ
    zeros = replicate (most_tables - n) 0

    taken : length (take n all) ≡ n
    taken = length-take-le n all (rw (for-long n f) h)

    long : length (take n all ++ zeros) ≡ most_tables
    long = length-append (take n all) zeros ∙ omega (arith, taken, length-replicate {A = ℕ} (most_tables - n) 0)

    go : (u : ℕ) → u < most_tables → Dec (u < n) → get_or (take n all ++ zeros) u 0 ≡ get_or all u 0
    go u b (yes l) = get_or-append (take n all) zeros 0 u (rw taken l) ∙ get_or-take n all u 0 l
    go u b (no l) =
        let e : u ≡ length (take n all) + (u - n) = omega (arith, taken) in
        ap (λ (x : ℕ). get_or (take n all ++ zeros) x 0) e ∙ get_or-append-add (take n all) zeros (u - n) 0
        ∙ get_or-replicate (most_tables - n) (u - n) 0 0 (omega arith) ∙ sym (for-past n f u (omega arith) b)

module _ (cat : Catalogue) (cells : List ℕ) (to from : ℕ → ℕ) (h : Renumbering cat.n to from) (A : Accepted cat cells) where
  abbrev moved : Catalogue
  moved = reordered from cat

  abbrev all : List ℕ
  all = reordered_cells from cat cells

  moved-trimmed : trimmed moved ≡ moved
  moved-trimmed =
      ap₂ (λ (x y : List ℕ). filled (given cat.m cat.n x y))
      (front-for cat.n (λ u. scheme_of cat (from u)) A.lawful.tables) (front-for cat.n (λ u. count_of cat (from u)) A.lawful.tables)

  -- In no cells but their own they are accepted.
  all-accepted : Accepted moved all
  all-accepted =
      let none : put all [] ≡ all = ap (λ (x : List ℕ). all ++ x) (drop_of_length-le [] {i = length all} (omega arith)) ∙ append-nil all in
      subst (Accepted moved) none (moved-accepted cat cells to from h A.lawful [] A)

  -- A load of their image, into cells that they fit in, gives them.
  pub moved-loads : (lent after : List ℕ) (r : Loaded) → first_cell cat cat.n ≤ length lent → Loads (image_of moved all) lent r after
      → (r ≡ found moved) × (after ≡ reordered_in from cat cells lent)
  moved-loads lent after r fits l =
      let n = cells-moved cat cells to from h A.lawful in
      let k : first_cell moved cat.n ≡ length all = n ∙ sym (reordered-long cat cells to from h A.lawful) in
      let w = loads-written moved all (for-long cat.n (λ u. scheme_of cat (from u))) (for-long cat.n (λ u. count_of cat (from u)))
      (accepted-fault moved all all-accepted) lent r after (rw n fits) l in (
        w.0 ∙ ap found moved-trimmed,
        w.1 ∙ ap (λ (x : List ℕ). put x lent) (ap (λ (i : ℕ). take i all) k ∙ take-length all),
      )
