-- Each bound at its edge, on both sides, for every accepted timing.
use mathlib.Core.Path.{◌≡◌, refl}
use Rattle.std.specs.Prelude.{Ok, Err}
use Rattle.refusal.specs.declared.Refusal.TheVariants.{Length, Unlisted}
use Rattle.refusal.specs.Verdict.{verdict}
use Rattle.timing.specs.declared.DviTiming.{DviTiming}
use Rattle.timing.specs.Timing.{timing_asks}
use Rattle.line.specs.Asks.{line_asks, island_asks}

module _ (t : DviTiming) (ok : verdict (timing_asks t) ≡ Ok tt) where
  pub pulse_of_15 : (verdict (line_asks t 14 15) ≡ Err Length) × (verdict (line_asks t 15 15) ≡ Ok tt) × (verdict (line_asks t 16 15) ≡ Err Length)
  pulse_of_15 = (refl, ok, refl)

  pub only_of_11 : (verdict (line_asks t 10 11) ≡ Err Length) × (verdict (line_asks t 11 11) ≡ Ok tt) × (verdict (line_asks t 12 11) ≡ Err Length)
  only_of_11 = (refl, ok, refl)

  pub init_of_56 : (verdict (line_asks t 55 56) ≡ Err Length) × (verdict (line_asks t 56 56) ≡ Ok tt) × (verdict (line_asks t 57 56) ≡ Err Length)
  init_of_56 = (refl, ok, refl)

  pub island_of_56 : (verdict (island_asks t 55 36 3) ≡ Err Length) × (verdict (island_asks t 56 36 3) ≡ Ok tt) × (verdict (island_asks t 57 36 3) ≡ Err Length)
  island_of_56 = (refl, ok, refl)

  pub packet_of_36 : (verdict (island_asks t 56 35 0) ≡ Err Length) × (verdict (island_asks t 56 36 0) ≡ Ok tt) × (verdict (island_asks t 56 37 0) ≡ Err Length)
  packet_of_36 = (refl, ok, refl)

-- states go to 3; 4 is refused, with 4, whatever the timing is
pub state_4 : (t : DviTiming) → verdict (island_asks t 56 36 4) ≡ Err Unlisted
state_4 t = refl
