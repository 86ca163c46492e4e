-- Row sets, and which of them are maximal: document 000, section 2, and document 01, 'Row sets'. Of the tables only this is known: how many there
-- are, how many rows each has, which two touch, and which two rows are consistent. specs/Cells makes such tables of cells. Assumes nothing.
use Rattle.std.specs.Prelude.{ℕ, zero, suc, ◌≤◌, ◌<◌, ◌≡◌, ◌≢◌, Bool, true, length, get_or}
use mathlib.Core.List.{List, [], ◌∷◌, Memᴰ}
use Rattle.laws.specs.Distinct.{Distinct}

-- "Consider a set R = {R1, .., Rn} of relations." Tables are numbered from 0, the rows of table t from 1 to `count t`. `touches t u`: there is "an
-- edge between two schemes"; `fits t r u q`: row r of table t and row q of table u "are join consistent".
pub record Tables : Type 0 where
  pub n : ℕ
  pub count : ℕ → ℕ
  pub touches : ℕ → ℕ → Bool
  pub fits : ℕ → ℕ → ℕ → ℕ → Bool

-- "The scheme graph is the undirected graph ..": touching has no direction, and neither has being consistent.
pub record Symmetric (W : Tables) : Type 0 where
  pub touch : (t u : ℕ) → W.touches t u ≡ W.touches u t
  pub fit : (t r u q : ℕ) → W.fits t r u q ≡ W.fits u q t r

-- "A tuple set of R is any set of tuples .. consisting of at most one tuple from each relation": a list with the row number of table t at place t, 0
-- where t has no row in it. Past the list's end it is 0 too.
abbrev pub at : List ℕ → ℕ → ℕ
at T t = get_or T t 0

-- Table t has a row in T.
abbrev pub Member : List ℕ → ℕ → Type 0
Member T t = 0 < at T t

-- "T = {t1, .., tm}": m, the number of rows.
unfoldable pub size : List ℕ → ℕ
size [] = 0
size (zero ∷ T) = size T
size (suc r ∷ T) = suc (size T)

-- U contains T: every row of T is in U.
abbrev pub Within : List ℕ → List ℕ → Type 0
Within T U = (t : ℕ) → Member T t → at U t ≡ at T t

-- There are more than c sets with P.
abbrev pub MoreOf : (List ℕ → Type 0) → ℕ → Type 0
MoreOf P c = (l : List (List ℕ)) × Distinct l × ((T : List ℕ) → Memᴰ T l → P T) × (c < length l)

module _ (W : Tables) where
  -- Table t is there and has a row r.
  pub record Row (t r : ℕ) : Type 0 where
    pub table : t < W.n
    pub low : 0 < r
    pub high : r ≤ W.count t

  -- T is a row set of these tables.
  pub record Valid (T : List ℕ) : Type 0 where
    pub long : length T ≡ W.n
    pub bound : (t : ℕ) → at T t ≤ W.count t

  -- A way from table a to table b through tables of T's rows, each touching the next. (That a table touches itself leads it nowhere new.)
  pub data Way (T : List ℕ) : ℕ → ℕ → Type 0 where
    here : {a : ℕ} → Member T a → Way T a a
    step : {a b c : ℕ} → Member T a → W.touches a b ≡ true → Way T b c → Way T a c

  -- "T is connected if the tuples of T belong to a connected subset of R."
  abbrev pub Connected : List ℕ → Type 0
  Connected T = (t u : ℕ) → Member T t → Member T u → Way T t u

  -- "T is join consistent if every two tuples in T are join consistent."
  abbrev pub Consistent : List ℕ → Type 0
  Consistent T = (t u : ℕ) → t ≢ u → Member T t → Member T u → W.fits t (at T t) u (at T u) ≡ true

  -- "JCC(T) denotes that T is both join consistent and connected"; and, as document 01 says, nonempty.
  pub record JCC (T : List ℕ) : Type 0 where
    pub valid : Valid T
    pub some : (t : ℕ) × Member T t
    pub consistent : Consistent T
    pub connected : Connected T

  -- "MaxJCC(R) is the set of all tuple sets T such that (1) JCC(T), and (2) T is maximal, that is, no tuple set that is both join consistent and
  -- connected also properly contains T."
  pub record Maximal (T : List ℕ) : Type 0 where
    pub jcc : JCC T
    pub largest : (U : List ℕ) → JCC U → Within T U → U ≡ T
