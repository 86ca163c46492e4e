-- The stream of one row, read out of the demands: both lists hold exactly the sets asked for, and a key tells its set. Assumes nothing.
use Prim.Native.Nat.{ℕ}
use mathlib.Core.Path.{◌≡◌, sym, ap, subst, ◌∙◌}
use mathlib.Core.List.{List, Memᴰ}
use Rattle.keys.specs.Keys.{bits_per_row, key_of}
use Rattle.tables.specs.declared.Catalogue.{Catalogue}
use Rattle.disjunction.specs.Sets.{at, Maximal}
use Rattle.disjunction.specs.Rule.{Place}
use Rattle.disjunction.specs.Asked.{every_set, every_with}
use Rattle.rows.specs.World.{world_of, set_of}
use Rattle.machine.specs.Machine.{call, opening, opening_holding}
use Rattle.machine.specs.Runs.{run_of, handed}
use Rattle.claims.specs.Holdings.{HoldingSets}
use Rattle.claims.proofs.Demanded.{demands}

module _ (cat : Catalogue) (cells : List ℕ) (s : Place) where
  pub holding-sets : HoldingSets cat cells s
  holding-sets =
      record {
        sets = λ k u l r e gs f.
            let d = (demands cat cells (every_with s) k u l r e).0 in
            record {
              once = d.once gs;
              exactly = λ T. (
                λ x. (d.every gs f T x, d.named T x.0),
                λ m.
                    let (U, x, z) = d.only gs (key_of bits_per_row T) m.0 in
                    let q : U ≡ T = sym (d.named U x.0) ∙ ap (set_of cat) (sym z) ∙ m.1 in
                    subst (λ (X : List ℕ). Maximal (world_of cat cells) X × (at X s.table ≡ s.row)) q x,
              );
            };
        among = λ k u l r k' u' l' r' e e' gs gs' f f' key.
            let d = (demands cat cells (every_with s) k u l r e).0 in
            let b = (demands cat cells every_set k' u' l' r' e').0 in
            let held = handed (run_of (call cat cells) gs (opening_holding cat cells s k u l r).after) in
            let every = handed (run_of (call cat cells) gs' (opening cat cells k' u' l' r').after) in (
              λ m.
                  let (U, x, z) = d.only gs key m in
                  let q : U ≡ set_of cat key = sym (d.named U x.0) ∙ ap (set_of cat) (sym z) in
                  (subst (λ (j : ℕ). Memᴰ j every) (sym z) (b.every gs' f' U x.0), subst (λ (X : List ℕ). at X s.table ≡ s.row) q x.1),
              λ m.
                  let (U, x, z) = b.only gs' key m.0 in
                  let q : set_of cat key ≡ U = ap (set_of cat) z ∙ b.named U x in
                  subst (λ (j : ℕ). Memᴰ j held) (sym z) (d.every gs f U (x, subst (λ (X : List ℕ). at X s.table ≡ s.row) q m.1)),
            );
      }
