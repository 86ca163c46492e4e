-- Request #109, read out plainly: what the stream of one row hands out, in words of document 000 and beside the list of the stream of document 01.
-- Every other sentence of the request is a demand with `every_with` the row for what is asked (specs/Demands, CallRefusals). Proved in proofs/Held.
-- Assumes nothing.
use Rattle.std.specs.Prelude.{ℕ, ◌≡◌, ◌↔◌}
use mathlib.Core.List.{List, Memᴰ}
use Rattle.laws.specs.Distinct.{Distinct}
use Rattle.keys.specs.Keys.{bits_per_row, key_of}
use Rattle.tables.specs.declared.Catalogue.{Catalogue}
use Rattle.disjunction.specs.Sets.{at, Maximal}
use Rattle.disjunction.specs.Rule.{Place}
use Rattle.rows.specs.World.{world_of, set_of}
use Rattle.machine.specs.Machine.{finished, call, opening, opening_holding}
use Rattle.machine.specs.Runs.{Given, run_of, handed}
use Rattle.claims.specs.Demands.{Answered}

module _ (cat : Catalogue) (cells : List ℕ) (s : Place) where
  -- "Hands out exactly the maximal sets holding it, each once": of the keys of a drained list.
  pub record HandedHolding (keys : List ℕ) : Type 0 where
    pub once : Distinct keys
    pub exactly : (T : List ℕ)
        → (Maximal (world_of cat cells) T × (at T s.table ≡ s.row)) ↔ (Memᴰ (key_of bits_per_row T) keys × (set_of cat (key_of bits_per_row T) ≡ T))

  -- Beside the drained list of the stream of every set: its sets that hold the row, and no others.
  abbrev pub HandedAmong : List ℕ → List ℕ → Type 0
  HandedAmong every held = (k : ℕ) → Memᴰ k held ↔ (Memᴰ k every × (at (set_of cat k) s.table ≡ s.row))

  -- Of every drained stream of the row, in any store and by any calls; and of every drained stream of document 01 beside it.
  pub record HoldingSets : Type 0 where
    pub sets : (k u l r : List ℕ) → (opening_holding cat cells s k u l r).refusal ≡ 0 → (gs : List Given)
        → Answered finished (run_of (call cat cells) gs (opening_holding cat cells s k u l r).after)
        → HandedHolding (handed (run_of (call cat cells) gs (opening_holding cat cells s k u l r).after))
    pub among : (k u l r k' u' l' r' : List ℕ) → (opening_holding cat cells s k u l r).refusal ≡ 0 → (opening cat cells k' u' l' r').refusal ≡ 0
        → (gs gs' : List Given)
        → Answered finished (run_of (call cat cells) gs (opening_holding cat cells s k u l r).after)
        → Answered finished (run_of (call cat cells) gs' (opening cat cells k' u' l' r').after)
        → HandedAmong (handed (run_of (call cat cells) gs' (opening cat cells k' u' l' r').after))
        (handed (run_of (call cat cells) gs (opening_holding cat cells s k u l r).after))
