-- A new polarity gives new islands: two accepted timings that have an island in common, at the same line state, have the same polarities.
use mathlib.Core.Path.{◌≡◌, refl}
use mathlib.Core.Bool.{Bool, true, false}
use mathlib.Core.List.{List}
use Prim.Native.Nat.{ℕ, zero, suc, ◌+◌, ◌*◌, ◌<◌}
use native.Mathlib.Omega.{arith}
use Rattle.std.specs.Prelude.{Ok}
use Rattle.dvi.specs.Control.{level}
use Rattle.hdmi.specs.Island.{island}
use Rattle.hdmi.proofs.Once.{pair_once}
use Rattle.hdmi.proofs.Period.{level_lt, pair_lt}
use Rattle.refusal.specs.Verdict.{verdict}
use Rattle.timing.specs.declared.DviTiming.{DviTiming}
use Rattle.timing.specs.Sync.{level_of, positive, pair_for}
use Rattle.timing.specs.Timing.{timing_asks}
use Rattle.timing.proofs.Ranges.{accepted}

level_once : (a b : Bool) → level a ≡ level b → a ≡ b
level_once true true e = refl
level_once true false e = absurd (omega arith)
level_once false true e = absurd (omega arith)
level_once false false e = refl

-- while sync is on or off alike, the level tells the polarity
polarity_once : (p q : ℕ) (on : Bool) → p < 2 → q < 2 → level_of (positive p) on ≡ level_of (positive q) on → p ≡ q
polarity_once zero zero on a b e = refl
polarity_once zero (suc zero) true a b e = let z : ◌≡◌ {A = ℕ} 0 1 = cc in absurd (omega arith)
polarity_once zero (suc zero) false a b e = let z : ◌≡◌ {A = ℕ} 0 1 = cc in absurd (omega arith)
polarity_once (suc zero) zero true a b e = let z : ◌≡◌ {A = ℕ} 0 1 = cc in absurd (omega arith)
polarity_once (suc zero) zero false a b e = let z : ◌≡◌ {A = ℕ} 0 1 = cc in absurd (omega arith)
polarity_once (suc zero) (suc zero) on a b e = refl
polarity_once (suc (suc p)) q on a b e = absurd (omega arith)
polarity_once zero (suc (suc q)) on a b e = absurd (omega arith)
polarity_once (suc zero) (suc (suc q)) on a b e = absurd (omega arith)

module _ (t u : DviTiming) (okt : verdict (timing_asks t) ≡ Ok tt) (oku : verdict (timing_asks u) ≡ Ok tt) (h v : Bool) where
  pairs_lt : (x : DviTiming) → pair_for x h v < 4
  unfolding pair_for
  pairs_lt x = pair_lt (level_of (positive x.h_sync_polarity) h) (level_of (positive x.v_sync_polarity) v)

  pub polarities_once : pair_for t h v ≡ pair_for u h v → (t.h_sync_polarity ≡ u.h_sync_polarity) × (t.v_sync_polarity ≡ u.v_sync_polarity)
  unfolding pair_for
  polarities_once e =
      let th : Bool = level_of (positive t.h_sync_polarity) h in
      let tv : Bool = level_of (positive t.v_sync_polarity) v in
      let uh : Bool = level_of (positive u.h_sync_polarity) h in
      let uv : Bool = level_of (positive u.v_sync_polarity) v in
      let same : level th + 2 * level tv ≡ level uh + 2 * level uv = e in
      let low : level th ≡ level uh = omega (arith, level_lt th, level_lt uh) in
      let high : level tv ≡ level uv = omega (arith, low) in
      let a = accepted t okt in
      let b = accepted u oku in (
        polarity_once _ _ h a.h_polarity b.h_polarity (level_once th uh low),
        polarity_once _ _ v a.v_polarity b.v_polarity (level_once tv uv high),
      )

  -- so a changed polarity changes the island, whatever the packets are
  pub islands_tell : (p q : List ℕ) → island (pair_for t h v) p ≡ island (pair_for u h v) q
      → (t.h_sync_polarity ≡ u.h_sync_polarity) × (t.v_sync_polarity ≡ u.v_sync_polarity)
  islands_tell p q e = polarities_once (pair_once (pair_for t h v) (pair_for u h v) p q (pairs_lt t) (pairs_lt u) e)
