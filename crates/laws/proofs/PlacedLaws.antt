-- Bytes that stand in lent ones from a place on: part behind part is one part, and all that lies before the place behind them is known. Assumes nothing.
use Prim.Native.Nat.{ℕ, ◌+◌, ◌≤◌}
use native.Mathlib.Omega.{arith}
use mathlib.Core.Path.{◌≡◌, sym, ap, ◌∙◌}
use mathlib.Core.List.{List, ◌++◌, append_assoc}
use lib.ListN.{length, take, drop, length-append}
use lib.Seq.{length-take-le, take_at}
use Rattle.laws.specs.Lists.{put, over, Placed}
use Rattle.laws.proofs.ListLaws.{length_over, over-append}

module _ {bs lent after : List ℕ} {a n : ℕ} (h : a + length bs ≤ length lent) (p : Placed bs a lent n after) where
  pub placed-length : length after ≡ length lent
  placed-length = ap length p.bytes ∙ length_over a bs lent h

  -- What is left to place behind them makes the whole.
  pub placed-rest : (cs : List ℕ) → over a (bs ++ cs) lent ≡ over n cs after
  placed-rest cs = sym (rw p.bytes (over-append a n bs cs lent (omega arith) p.next))

  -- Bytes placed behind them and they are one part.
  pub placed-append : {cs end : List ℕ} {k : ℕ} → Placed cs n after k end → Placed (bs ++ cs) a lent k end
  placed-append {cs} q = record { next = omega (arith, p.next, q.next, length-append bs cs); bytes = q.bytes ∙ sym (placed-rest cs) }

  -- All that lies before the place behind them: what lay before their place, and they.
  pub placed-front : take n after ≡ take a lent ++ bs
  placed-front =
      let l : length (take a lent ++ bs) ≡ n = length-append (take a lent) bs ∙ omega (arith, p.next, length-take-le a lent (omega arith)) in
      rw (p.bytes, ← append_assoc (take a lent) bs (drop (length bs) (drop a lent))) (take_at (take a lent ++ bs) (drop (length bs) (drop a lent)) n l)

-- Three parts, each placed behind the one before, are one.
pub placed-three : {x y z l₀ l₁ l₂ l₃ : List ℕ} {a b d e : ℕ} → a + length x + length y ≤ length l₀ → Placed x a l₀ b l₁ → Placed y b l₁ d l₂ → Placed z d l₂ e l₃ → Placed (x ++ (y ++ z)) a l₀ e l₃
placed-three h p q r = placed-append (omega arith) p (placed-append (omega (arith, p.next, placed-length (omega arith) p)) q r)
