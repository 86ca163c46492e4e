-- Demand 1's exact conditions hold of open and of a call, in any state. Assumes nothing.
use Prim.Native.Nat.{ℕ, zero, suc}
use mathlib.Core.Path.{refl, ap, ◌∙◌}
use mathlib.Core.List.{List}
use lib.ListN.{length}
use Rattle.tables.specs.declared.Catalogue.{Catalogue}
use Rattle.disjunction.specs.Asked.{Asked}
use Rattle.store.specs.Store.{store_in}
use Rattle.machine.specs.Machine.{State, call_fault, unless_met, work, call, Opened, open_fault, opening_for}
use Rattle.machine.proofs.WorkLaws.{RowBy, work-row}
use Rattle.machine.proofs.RefusalLaws.{call-refused, opening-refused, opening-says}
use Rattle.claims.specs.Demands.{Demand1}
use Rattle.claims.proofs.CallExactly.{call-exact, call-stands, open-exact}

module _ (cat : Catalogue) (cells row : List ℕ) where
  pub call-row : (b : ℕ) (q : State) → RowBy cat cells row (call cat cells b q row) (call cat cells b q row).says
  unfolding call
  call-row b q = by (call_fault cat (length cells) q row)
    where
      by : (k : ℕ) → RowBy cat cells row (unless_met k q row (work cat cells b q row)) (unless_met k q row (work cat cells b q row)).says
      by zero = work-row cat cells row b q
      by (suc k) = (refl, refl)

pub demand1 : (cat : Catalogue) (cells : List ℕ) (a : Asked) → Demand1 cat cells a (opening_for cat cells a) (call cat cells)
demand1 cat cells a =
    record {
      opens = open-exact cat cells a;
      zeroed = λ k u l r h.
          let e =
          opening-refused cat cells a k u l r (open_fault cat (length cells) a (store_in k u l r 0)) refl (λ z. h (opening-says cat cells a k u l r ∙ z)) in
          (ap (λ (x : Opened). x.after) e, ap (λ (x : Opened). x.tests) e);
      calls = call-exact cat cells;
      refuses = λ b q row h. call-refused cat cells b q row (call_fault cat (length cells) q row) refl h;
      stands = call-stands cat cells;
    }
