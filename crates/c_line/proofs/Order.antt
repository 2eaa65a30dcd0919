-- The byte forms ask in the table's order, so that the refusal given is the lowest that applies.
use mathlib.Core.List.{List}
use Prim.Native.Nat.{ℕ}
use lib.Dec.{T}
use Rattle.refusal.specs.Verdict.{rising}
use Rattle.timing.specs.declared.DviTiming.{DviTiming}
use Rattle.c_line.specs.Asks.{line_bytes_asks, island_bytes_asks}

pub line_in_order : (n : ℕ) (t : DviTiming) (lent : List ℕ) → T (rising (line_bytes_asks n t lent))
line_in_order n t lent = tt

pub island_line_in_order : (t : DviTiming) (lent : List ℕ) (bytes state : ℕ) → T (rising (island_bytes_asks t lent bytes state))
island_line_in_order t lent bytes state = tt
