-- The questions are asked in the table's order.
use Prim.Native.Nat.{ℕ}
use lib.Dec.{T}
use Rattle.refusal.specs.Verdict.{rising}
use Rattle.timing.specs.declared.DviTiming.{DviTiming}
use Rattle.line.specs.Asks.{line_asks, island_asks}

pub line_in_order : (t : DviTiming) (have want : ℕ) → T (rising (line_asks t have want))
line_in_order t have want = tt

pub island_in_order : (t : DviTiming) (have bytes state : ℕ) → T (rising (island_asks t have bytes state))
island_in_order t have bytes state = tt
