-- The piece, table by table: the set without the tables that are left is a connected part that holds s, and where none of them is in reach it is the piece.
-- Touching alone decides, so all this holds whatever the cells are. Assumes nothing.
use Prim.Native.Nat.{ℕ, ◌-◌, ◌^◌, ◌<◌}
use mathlib.Core.Path.{◌≡◌, refl, sym, ap, ◌∙◌}
use mathlib.Core.Logic.{⊎_elim, ◌≢◌}
use mathlib.Core.Bool.{true, false}
use mathlib.Core.List.{List, []}
use native.Mathlib.Omega.{arith}
use lib.ListN.{length}
use lib.Seq.{ext_get_or}
use lib.Bits.{bit_and, bit_or}
use Rattle.laws.proofs.TestLaws.{which, not_yes, iff-eq, and_split, and_none}
use Rattle.words.specs.Words.{bit_of}
use Rattle.words.proofs.WordLaws.{zero_bit, bit-and, bit-gone, bit_kept}
use Rattle.tables.specs.declared.Catalogue.{Catalogue}
use Rattle.tables.specs.Catalogues.{mask_in}
use Rattle.tables.specs.Checks.{Lawful}
use Rattle.disjunction.specs.Sets.{at, Member}
use Rattle.disjunction.specs.Rule.{Place, row_in, near, joins, alone, piece}
use Rattle.disjunction.proofs.RowSets.{member-table, alone-long, alone_at}
use Rattle.disjunction.proofs.RowTests.{near-iff, joins-iff}
use Rattle.disjunction.proofs.Pieces.{Part, part-alone, part_step, part-closed, pieces, piece-unique}
use Rattle.rows.specs.World.{world_of}
use Rattle.rows.specs.Named.{There}
use Rattle.rows.proofs.WorldLaws.{world-symmetric}
use Rattle.sets.specs.Promises.{TablesOf, lacking, Reach}
use Rattle.sets.proofs.MaskLaws.{without-under}
use Rattle.sets.proofs.MergedLaws.{gathered-one, gathered-add}
use Rattle.sets.proofs.LackingLaws.{tables-has, tables-of, tables-none, lacking-long, lacking-out, lacking-in, lacking-more, lacking-set}
use Rattle.sets.proofs.RowTestLaws.{near-reach}

-- The tables of the mask `left` are still to come, if they do; the part of D so far is without them, and touches the tables of `reach`.
pub record Joining (cat : Catalogue) (D : List ℕ) (s : Place) (left reach : ℕ) : Type 0 where
  pub within : (u : ℕ) → bit_of left u ≡ true → Member D u
  pub touched : Reach cat (at (lacking D left)) reach
  pub share : (cells : List ℕ) → Part (world_of cat cells) D s (lacking D left)

module _ (cat : Catalogue) (lent : ℕ) (L : Lawful cat lent) (D : List ℕ) (long : length D ≡ cat.n) (s : Place) (h : There cat s.table s.row)
    (own : at D s.table ≡ s.row) where
  -- At first all tables but that of s are left.
  module _ (mask : ℕ) (M : TablesOf D mask) where
    has : bit_of mask s.table ≡ true
    has = tables-of D mask M s.table (rw own h.low)

    first-here : at (lacking D (mask - 2 ^ s.table)) s.table ≡ s.row
    first-here = lacking-in D (mask - 2 ^ s.table) s.table (bit-gone mask s.table has) ∙ own

    first-other : (u : ℕ) → u ≢ s.table → at (lacking D (mask - 2 ^ s.table)) u ≡ 0
    first-other u g =
        ⊎_elim
        (λ b. lacking-out D (mask - 2 ^ s.table) u b)
        (λ b. lacking-in D (mask - 2 ^ s.table) u b ∙ tables-none D mask M u (sym (bit_kept mask s.table has u g) ∙ b))
        (which (bit_of (mask - 2 ^ s.table) u))

    first_alone : (cells : List ℕ) → lacking D (mask - 2 ^ s.table) ≡ alone (world_of cat cells) s
    first_alone cells =
        ext_get_or 0 (lacking D (mask - 2 ^ s.table)) (alone (world_of cat cells) s)
        (lacking-long D (mask - 2 ^ s.table) ∙ long ∙ sym (alone-long (world_of cat cells) s))
        (λ u b.
        ⊎_elim
        (λ x. rw (x.1, x.0) first-here)
        (λ x. first-other u x.0 ∙ sym x.1)
        (alone_at (world_of cat cells) s u h.table))

    pub join-start : (k : ℕ) → k ≡ 2 ^ s.table → Joining cat D s (mask - k) (mask_in cat s.table)
    join-start k e =
        rw e
        (record {
          within = λ u b. tables-has D mask M u (without-under mask s.table has u b);
          touched = gathered-one (λ u. mask_in cat u) (at (lacking D (mask - 2 ^ s.table))) s.table (rw first-here h.low) first-other;
          share = λ cells. rw (first_alone cells) (part-alone (world_of cat cells) D s h.table h.low own);
        })

  module _ (left reach : ℕ) (J : Joining cat D s left reach) where
    long-part : length (lacking D left) ≡ cat.n
    long-part = lacking-long D left ∙ long

    -- A table that is left touches the part where it is in reach.
    module _ (u : ℕ) (b : bit_of left u ≡ true) where
      there : u < cat.n
      there = member-table (world_of cat []) D long u (J.within u b)

      pub join-near : (cells : List ℕ) → joins (world_of cat cells) (lacking D left) (row_in D u) ≡ bit_of reach u
      join-near cells =
          iff-eq (joins (world_of cat cells) (lacking D left) (row_in D u)) (bit_of reach u)
          (λ y. sym nearby ∙ (near-iff (world_of cat cells) (lacking D left) (row_in D u) long-part).1
          ((joins-iff (world_of cat cells) (lacking D left) (row_in D u) long-part).0 y).near)
          (λ y.
          (joins-iff (world_of cat cells) (lacking D left) (row_in D u) long-part).1
          (record { absent = lacking-out D left u b; near = (near-iff (world_of cat cells) (lacking D left) (row_in D u) long-part).0 (nearby ∙ y) }))
        where
          nearby : near (world_of cat cells) (lacking D left) (row_in D u) ≡ bit_of reach u
          nearby = near-reach cat cells lent L (lacking D left) (row_in D u) long-part there reach J.touched (lacking-out D left u b)

    -- One that does comes in.
    pub join-next : (u k : ℕ) → bit_of (bit_and left reach) u ≡ true → k ≡ 2 ^ u → Joining cat D s (left - k) (bit_or reach (mask_in cat u))
    join-next u k b e =
        let x = and_split (bit_of left u) (bit_of reach u) (sym (bit-and left reach u) ∙ b) in
        let m = J.within u x.0 in
        rw e
        (record {
          within = λ v c. J.within v (without-under left u x.0 v c);
          touched =
              gathered-add (λ v. mask_in cat v) (at (lacking D left)) (at (lacking D (left - 2 ^ u))) reach u (at D u)
              (lacking-more D left u x.0 (at D u) refl m) J.touched;
          share = λ cells.
              rw (← lacking-set D left u x.0 (rw long (there u x.0)))
              (part_step (world_of cat cells) (world-symmetric cat cells) D s (lacking D left) u (J.share cells) (there u x.0)
              (join-near u x.0 cells ∙ x.1));
        })

    -- None does.
    pub join-end : bit_and left reach ≡ 0 → (cells : List ℕ) → lacking D left ≡ piece (world_of cat cells) D s
    join-end z cells =
        piece-unique (world_of cat cells) D s (lacking D left) (piece (world_of cat cells) D s)
        (part-closed (world_of cat cells) D s (lacking D left) long (J.share cells) (λ u l m. ⊎_elim (apart u) (inside u m) (which (bit_of left u))))
        (pieces (world_of cat cells) (world-symmetric cat cells) D s long h.table h.low own)
      where
        apart : (u : ℕ) → bit_of left u ≡ true → joins (world_of cat cells) (lacking D left) (row_in D u) ≡ false
        apart u b = join-near u b cells ∙ and_none (bit_of left u) (bit_of reach u) (sym (bit-and left reach u) ∙ ap (λ (x : ℕ). bit_of x u) z ∙ zero_bit u) b

        inside : (u : ℕ) → Member D u → bit_of left u ≡ false → joins (world_of cat cells) (lacking D left) (row_in D u) ≡ false
        inside u m f =
            not_yes (joins (world_of cat cells) (lacking D left) (row_in D u))
            (λ y.
            absurd (omega (arith, m, lacking-in D left u f, ((joins-iff (world_of cat cells) (lacking D left) (row_in D u) long-part).0 y).absent)))
