-- What a counter has that is not refused.
use mathlib.Core.Path.{◌≡◌}
use mathlib.Core.List.{[]}
use Prim.Native.Nat.{ℕ, ◌+◌, ◌≤◌, ◌<◌}
use native.Mathlib.Omega.{arith}
use lib.Dec.{leb, ltb}
use borrow.Author.Tests.{leb-true, ltb-true}
use Rattle.std.specs.Prelude.{Ok}
use Rattle.refusal.specs.declared.Refusal.TheVariants.{LineCounter, LineOffset}
use Rattle.refusal.specs.Verdict.{verdict}
use Rattle.timing.specs.declared.DviTiming.{DviTiming}
use Rattle.timing.specs.Timing.{total, timing_asks}
use Rattle.timing.proofs.Ranges.{Accepted, accepted}
use Rattle.refusal.proofs.Upward.{held, both_fine}
use Rattle.counter.specs.Counter.{below_total, counter_asks, offset_fits, scanline_asks}

pub record Counted (t : DviTiming) (c : ℕ) : Type 0 where
  pub timing : Accepted t
  pub below : c < total t

pub counted : (t : DviTiming) (c : ℕ) → verdict (counter_asks t c) ≡ Ok tt → Counted t c
counted t c e =
    let b = both_fine (timing_asks t) (below_total t c) e in
    record { timing = accepted t b.0; below = ltb-true c (total t) (held (ltb c (total t)) LineCounter [] b.1).0 }

-- a frame has at most 16,380 lines
pub total_most : (t : DviTiming) → Accepted t → total t ≤ 16380
total_most t a = omega (arith, a.v_front.most, a.v_sync.most, a.v_back.most, a.v_active.most)

pub total_least : (t : DviTiming) → Accepted t → 4 ≤ total t
total_least t a = omega (arith, a.v_front.least, a.v_sync.least, a.v_back.least, a.v_active.least)

pub offset_fits_lem : (t : DviTiming) (c offset : ℕ) → verdict (scanline_asks t c offset) ≡ Ok tt → c + offset ≤ 4294967295
offset_fits_lem t c offset e =
    leb-true (c + offset) 4294967295 (held (leb (c + offset) 4294967295) LineOffset [] (both_fine (counter_asks t c) (offset_fits c offset) e).1).0
