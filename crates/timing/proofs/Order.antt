-- The questions are asked in the table's order.
use Prim.Native.Nat.{ℕ}
use lib.Dec.{T}
use Rattle.refusal.specs.Verdict.{rising}
use Rattle.timing.specs.declared.DviTiming.{DviTiming}
use Rattle.timing.specs.Command.{command_asks}
use Rattle.timing.specs.Sync.{polarity_asks}
use Rattle.timing.specs.Timing.{timing_asks}

pub command_in_order : (count : ℕ) → T (rising (command_asks count))
command_in_order count = tt

pub sync_in_order : (t : DviTiming) → T (rising (polarity_asks t))
sync_in_order t = tt

pub timing_in_order : (t : DviTiming) → T (rising (timing_asks t))
timing_in_order t = tt
