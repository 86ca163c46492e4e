-- The refusals of a catalogue, "4; then table by table 5, 6, 8", then 16 (#106), each in the form 'given exactly when its condition holds and no earlier one
-- does'. Whatever a catalogue is lent to begins with them. Proved in proofs/CatalogueExactly. Assumes nothing.
use Rattle.std.specs.Prelude.{ℕ, ◌+◌, ◌^◌, ◌≤◌, ◌<◌, ◌≡◌, ◌⊎◌, ◌↔◌, List}
use Rattle.tables.specs.declared.Catalogue.{Catalogue}
use Rattle.tables.specs.Checks.{Made}
use Rattle.tables.specs.Sizes.{most_attributes, most_tables, most_rows, most_cells}
use Rattle.tables.specs.Catalogues.{scheme_of, count_of, first_cell, touching_of, filled, given, no_tables, place_in, mask_in}
use Rattle.tables.specs.Checks.{catalogue_fault, Lawful}

-- "4: m or n out of range"
abbrev pub SizesOut : Catalogue → Type 0
SizesOut cat = ((cat.m < 1) ⊎ (most_attributes < cat.m)) ⊎ ((cat.n < 1) ⊎ (most_tables < cat.n))

-- "5: a scheme is 0 or not below 2^m", said of table t
abbrev pub BadScheme : Catalogue → ℕ → Type 0
BadScheme cat t = (scheme_of cat t ≡ 0) ⊎ (2 ^ cat.m ≤ scheme_of cat t)

-- "6 means .. above 4,095 in version 2 and in a catalogue" (#110)
abbrev pub ManyRows : Catalogue → ℕ → Type 0
ManyRows cat t = most_rows < count_of cat t

-- "8: cells so far, this table included, pass 8,192 or the lent cell slice", of which `lent` is the length
abbrev pub ManyCells : Catalogue → ℕ → ℕ → Type 0
ManyCells cat lent t = (most_cells < first_cell cat (t + 1)) ⊎ (lent < first_cell cat (t + 1))

-- Table t meets none of 5, 6 and 8.
abbrev pub GoodHead : Catalogue → ℕ → ℕ → Type 0
GoodHead cat lent t = (BadScheme cat t → ⊥) × (ManyRows cat t → ⊥) × (ManyCells cat lent t → ⊥)

-- The check comes to table t: neither the sizes nor a table before it are at fault.
pub record ComesTo (cat : Catalogue) (lent t : ℕ) : Type 0 where
  pub sizes : SizesOut cat → ⊥
  pub there : t < cat.n
  pub before : (u : ℕ) → u < t → GoodHead cat lent u

-- "16, a stored place or mask isn't the one worked out", said of table t
abbrev pub Misstored : Catalogue → ℕ → Type 0
Misstored cat t = (place_in cat t ≡ first_cell cat t → ⊥) ⊎ (mask_in cat t ≡ touching_of cat t → ⊥)

-- The check comes to what is stored: neither the sizes nor a table are at fault.
pub record ComesToStored (cat : Catalogue) (lent : ℕ) : Type 0 where
  pub sizes : SizesOut cat → ⊥
  pub tables : (t : ℕ) → t < cat.n → GoodHead cat lent t

-- The refusals that a catalogue can meet.
abbrev pub OfCatalogue : ℕ → Type 0
OfCatalogue k = (k ≡ 4) ⊎ (k ≡ 5) ⊎ (k ≡ 6) ⊎ (k ≡ 8) ⊎ (k ≡ 16)

-- Of a catalogue, when so many cells are lent; 0 stands for no refusal.
pub record CatalogueExact (cat : Catalogue) (lent : ℕ) : Type 0 where
  pub refusal-4 : (catalogue_fault cat lent ≡ 4) ↔ SizesOut cat
  pub refusal-5 : (catalogue_fault cat lent ≡ 5) ↔ ((t : ℕ) × ComesTo cat lent t × BadScheme cat t)
  pub refusal-6 : (catalogue_fault cat lent ≡ 6) ↔ ((t : ℕ) × ComesTo cat lent t × (BadScheme cat t → ⊥) × ManyRows cat t)
  pub refusal-8 : (catalogue_fault cat lent ≡ 8) ↔ ((t : ℕ) × ComesTo cat lent t × (BadScheme cat t → ⊥) × (ManyRows cat t → ⊥) × ManyCells cat lent t)
  pub refusal-16 : (catalogue_fault cat lent ≡ 16) ↔ (ComesToStored cat lent × ((t : ℕ) × (t < cat.n) × Misstored cat t))
  pub none : (catalogue_fault cat lent ≡ 0) ↔ Lawful cat lent
  pub no_other : (k : ℕ) → catalogue_fault cat lent ≡ k → (k ≡ 0) ⊎ OfCatalogue k

-- The call that makes a catalogue of m, n, schemes and row counts: each refusal exactly when, for as many cells as there can be; and what it gives.
pub record MakeExact (m n : ℕ) (schemes rows : List ℕ) (r : Made) : Type 0 where
  pub refusal-4 : (r.refusal ≡ 4) ↔ SizesOut (given m n schemes rows)
  pub refusal-5 : (r.refusal ≡ 5) ↔ ((t : ℕ) × ComesTo (given m n schemes rows) most_cells t × BadScheme (given m n schemes rows) t)
  pub refusal-6 : (r.refusal ≡ 6)
      ↔ ((t : ℕ) × ComesTo (given m n schemes rows) most_cells t × (BadScheme (given m n schemes rows) t → ⊥) × ManyRows (given m n schemes rows) t)
  pub refusal-8 : (r.refusal ≡ 8)
      ↔ ((t : ℕ) × ComesTo (given m n schemes rows) most_cells t × (BadScheme (given m n schemes rows) t → ⊥) × (ManyRows (given m n schemes rows) t → ⊥)
      × ManyCells (given m n schemes rows) most_cells t)
  -- A catalogue that is given is lawful and says what was said, and only then is none refused.
  pub none : (r.refusal ≡ 0) ↔ Lawful r.catalogue most_cells
  pub said : r.refusal ≡ 0 → r.catalogue ≡ filled (given m n schemes rows)
  pub zeros : (r.refusal ≡ 0 → ⊥) → r.catalogue ≡ no_tables
  pub no_other : (k : ℕ) → r.refusal ≡ k → (k ≡ 0) ⊎ (k ≡ 4) ⊎ (k ≡ 5) ⊎ (k ≡ 6) ⊎ (k ≡ 8)
