-- The bounds of the clock packet, on both sides; and the order of the questions.
use mathlib.Core.Path.{◌≡◌}
use mathlib.Core.List.{List}
use Prim.Native.Nat.{ℕ}
use lib.Dec.{T}
use lib.ListN.{length}
use Rattle.std.specs.Prelude.{Ok, Err}
use Rattle.refusal.specs.declared.Refusal.TheVariants.{Length, ClockValue}
use Rattle.refusal.specs.Verdict.{verdict, rising}
use Rattle.clock.specs.Asks.{clock_asks}

pub clock_in_order : (p : List ℕ) (cts n : ℕ) → T (rising (clock_asks p cts n))
clock_in_order p cts n = tt

-- a packet of 35 or 37 bytes is refused for its length, whatever else is wrong
module _ (p : List ℕ) (cts n : ℕ) where
  pub clock_35 : length p ≡ 35 → verdict (clock_asks p cts n) ≡ Err Length
  clock_35 e = rw e

  pub clock_37 : length p ≡ 37 → verdict (clock_asks p cts n) ≡ Err Length
  clock_37 e = rw e

-- CTS and N
module _ (p : List ℕ) (e : length p ≡ 36) where
  pub clock_highest : verdict (clock_asks p 1048575 1048575) ≡ Ok tt
  clock_highest = rw e

  pub cts_above : verdict (clock_asks p 1048576 0) ≡ Err ClockValue
  cts_above = rw e

  pub n_above : verdict (clock_asks p 0 1048576) ≡ Err ClockValue
  n_above = rw e
