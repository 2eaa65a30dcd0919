-- The questions are asked in the table's order.
use Prim.Native.Nat.{ℕ}
use lib.Dec.{T}
use Rattle.refusal.specs.Verdict.{rising}
use Rattle.timing.specs.declared.DviTiming.{DviTiming}
use Rattle.counter.specs.Counter.{counter_asks, scanline_asks}

pub counter_in_order : (t : DviTiming) (c : ℕ) → T (rising (counter_asks t c))
counter_in_order t c = tt

pub scanline_in_order : (t : DviTiming) (c offset : ℕ) → T (rising (scanline_asks t c offset))
scanline_in_order t c offset = tt
