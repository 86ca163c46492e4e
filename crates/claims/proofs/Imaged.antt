-- What the loader accepts is lawful, so open refuses none of it and the demands hold of it; the two round trips of crate image; and the
-- version is an image's first byte. Assumes nothing.
use Prim.Native.Nat.{ℕ, ◌<◌}
use native.Mathlib.Omega.{arith}
use mathlib.Core.Path.{◌≡◌, refl, sym, ap, subst, ◌∙◌}
use mathlib.Core.List.{List}
use lib.ListN.{length, get_or}
use Rattle.tables.specs.declared.Catalogue.{Catalogue}
use Rattle.laws.specs.Lists.{put}
use Rattle.numbers.proofs.EncodeLaws.{encode-last}
use Rattle.tables.specs.Catalogues.{total}
use Rattle.tables.specs.Versions.{version_of}
use Rattle.tables.proofs.VersionLaws.{version-few}
use Rattle.writer.specs.Write.{image_of}
use Rattle.tables.specs.Checks.{Lawful}
use Rattle.disjunction.specs.Asked.{Asked, every_set, every_with}
use Rattle.machine.specs.Machine.{State, Askable, call, Called, Opened, opening_for}
use Rattle.machine.specs.Runs.{Given, run_of, ended_of}
use Rattle.store.specs.Store.{store_in, room_in}
use Rattle.image.proofs.RoundTrip.{written-loads, loads-accepted, loaded-writes}
use Rattle.claims.specs.Demands.{Demand2, Demand3}
use Rattle.claims.specs.CallsInRow.{InRow}
use Rattle.claims.specs.Images.{Streamed, FromOpen, LoadedDemands, RoundTrips, Carries}
use Rattle.claims.proofs.VersionExactly.{carries-two, carries-one}
use Rattle.claims.proofs.Opens.{opens-iff}
use Rattle.claims.proofs.InARow.{in-row-ran}
use Rattle.claims.proofs.Demanded.{demands}

module _ (cat : Catalogue) (cells : List ℕ) (a : Asked) where
  -- Of a run, the demands' own fields.
  run-streamed : (c : ℕ) (q : State) (gs : List Given) → Demand2 cat cells a (call cat cells) q → Demand3 cat cells a (call cat cells) c q
      → Streamed cat cells a c q gs (run_of (call cat cells) gs q) (ended_of (call cat cells) gs q)
  run-streamed c q gs d e =
      record { answers = refl; state = refl; only = d.only gs; once = d.once gs; every = d.every gs; full = e.full-exactly gs }

  calls-streamed : (c : ℕ) (q : State) → Demand2 cat cells a (call cat cells) q → Demand3 cat cells a (call cat cells) c q
      → (gs : List Given) (l : List Called) (p : State) → InRow cat cells q gs l p → Streamed cat cells a c q gs l p
  calls-streamed c q d e gs l p i =
      let r = in-row-ran cat cells i in
      subst (λ (x : List Called). Streamed cat cells a c q gs x p) (sym r.answers)
      (subst (Streamed cat cells a c q gs (run_of (call cat cells) gs q)) (sym r.state) (run-streamed c q gs d e))

  -- Whatever open gave on a lawful catalogue, where the row asked for is there and the store has a record if there is a row.
  from-open : Lawful cat (length cells) → Askable cat a → (low high left right : List ℕ) → (0 < total cat → 0 < room_in (store_in low high left right 0))
      → (o : Opened) → o ≡ opening_for cat cells a low high left right → (o.refusal ≡ 0) × FromOpen cat cells a (room_in (store_in low high left right 0)) o.after
  from-open L y low high left right h o e =
      let free = (opens-iff cat cells a low high left right).1 (L, y, h) in
      let c = room_in (store_in low high left right 0) in
      let both = demands cat cells a low high left right free in
      let made : FromOpen cat cells a c (opening_for cat cells a low high left right).after =
      record { demand2 = both.0; demand3 = both.1; calls = calls-streamed c (opening_for cat cells a low high left right).after both.0 both.1 }
      in
      (ap (λ (x : Opened). x.refusal) e ∙ free, subst (λ (x : Opened). FromOpen cat cells a c x.after) (sym e) made)

pub loaded-demands : LoadedDemands
loaded-demands =
    record {
      all_sets = λ s lent cells r by l good low high left right h o ks hs ls rs e.
          from-open r.catalogue cells every_set (loads-accepted s lent cells r by good l).lawful tt low high left right h _ e;
      holding = λ s lent cells r by l good low high left right table row there h o ks hs ls rs e.
          from-open r.catalogue cells (every_with (record { table = table; row = row })) (loads-accepted s lent cells r by good l).lawful there
          low high left right (λ n. h) _ e;
    }

pub round-trips : RoundTrips
round-trips =
    record {
      loaded = λ s lent cells out wrote r w by l good fits h. loaded-writes s lent cells r by good l out wrote w fits h;
      written = written-loads;
    }

-- ---- the version

-- The first byte of an image is its version, which is below 128.
first_byte : (cat : Catalogue) (cells out : List ℕ) → get_or (put (image_of cat cells) out) 0 0 ≡ version_of cat
unfolding image_of
first_byte cat cells out = rw (encode-last (version_of cat) (omega (arith, version-few cat))) refl

pub carries : Carries
carries =
    record {
      two = λ cat cells out wrote n w. rw (w.bytes, first_byte cat cells out) (carries-two cat);
      one = λ cat cells out wrote n w. rw (w.bytes, first_byte cat cells out) (carries-one cat);
    }
