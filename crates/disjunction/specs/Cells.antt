-- Tables of cells, as the tables of specs/Sets: what touching and being consistent are (document 01, 'Row sets'; document 000, section 2.1), and the
-- row that a set stands for (document 000's embedding). Assumes nothing.
use Rattle.std.specs.Prelude.{ℕ, zero, suc, ◌<◌, ◌≡◌, Bool, true, not, cond, ◌&&◌, ◌||◌, List, length, get_or, ltb, eqb}
use Rattle.laws.specs.Tests.{any, all}
use Rattle.laws.specs.Lists.{tab}
use Rattle.disjunction.specs.Sets.{Tables, at, Member, Maximal}
use Rattle.disjunction.specs.Rule.{member}

-- m attributes, n tables; `has t a`: attribute a is in table t's scheme; `cell t r a`: the code of attribute a in row r of table t, 0 for null.
pub record Cells : Type 0 where
  pub m : ℕ
  pub n : ℕ
  pub count : ℕ → ℕ
  pub has : ℕ → ℕ → Bool
  pub cell : ℕ → ℕ → ℕ → ℕ

-- "Has a value in both rows, the same one. Null matches nothing, not even null."
unfoldable pub same : ℕ → ℕ → Bool
same x y = ltb 0 x && eqb x y

module _ (C : Cells) where
  -- "Two tables touching if their schemes share an attribute."
  unfoldable pub sharing : ℕ → ℕ → Bool
  sharing t u = any C.m (λ a. C.has t a && C.has u a)

  -- What its yes says: there is such an attribute.
  abbrev pub Sharing : ℕ → ℕ → Type 0
  Sharing t u = (a : ℕ) × (a < C.m) × (C.has t a ≡ true) × (C.has u a ≡ true)

  -- "Two rows of different tables are consistent when every attribute in both schemes has a value in both rows, the same one."
  unfoldable pub matching : ℕ → ℕ → ℕ → ℕ → Bool
  matching t r u q = all C.m (λ a. not (C.has t a && C.has u a) || same (C.cell t r a) (C.cell u q a))

  -- What its yes says, attribute by attribute; a code above 0 is a value.
  abbrev pub Matching : ℕ → ℕ → ℕ → ℕ → Type 0
  Matching t r u q = (a : ℕ) → a < C.m → C.has t a ≡ true → C.has u a ≡ true → (0 < C.cell t r a) × (C.cell t r a ≡ C.cell u q a)

  -- The tables of the rule that these cells make: who touches whom, and which rows fit.
  abbrev pub tables : Tables
  tables = record { n = C.n; count = C.count; touches = sharing; fits = matching }

  -- Table t is a member with attribute a.
  unfoldable pub gives : List ℕ → ℕ → ℕ → Bool
  gives T a t = member T t && C.has t a

  -- The code of attribute a from the lowest-numbered member table below k that has it, 0 where there is none.
  unfoldable pub code_below : List ℕ → ℕ → ℕ → ℕ
  code_below T a zero = 0
  code_below T a (suc k) = cond (any k (gives T a)) (code_below T a k) (cond (gives T a k) (C.cell k (at T k) a) 0)

  -- "The padded row has for each attribute below m the code from the lowest-numbered member table with that attribute, and 0 where there is none."
  unfoldable pub padded : List ℕ → List ℕ
  padded T = tab C.m (λ a. code_below T a C.n)

  -- "embed(T) is the tuple t, such that for all attributes A, if T contains a tuple t' with the attribute A, then t[A] = t'[A]; otherwise, t[A] is
  -- null."
  pub record Embedding (T r : List ℕ) : Type 0 where
    pub long : length r ≡ C.m
    pub from : (t a : ℕ) → a < C.m → Member T t → C.has t a ≡ true → get_or r a 0 ≡ C.cell t (at T t) a
    pub null : (a : ℕ) → a < C.m → ((t : ℕ) → Member T t → C.has t a ≡ true → ⊥) → get_or r a 0 ≡ 0

  -- "The full disjunction of R is the relation {embed(T) | T in MaxJCC(R)}", over all m attributes.
  abbrev pub FullDisjunction : List ℕ → Type 0
  FullDisjunction r = (T : List ℕ) × Maximal tables T × Embedding T r
