-- The byte forms ask in the table's order, so that the refusal given is the lowest that applies.
use mathlib.Core.List.{List}
use Prim.Native.Nat.{ℕ}
use lib.Dec.{T}
use Rattle.refusal.specs.Verdict.{rising}
use Rattle.island_reader.specs.Read.{nowhere, word_asks}
use Rattle.c_island.specs.Asks.{encode_island_asks, read_island_asks}

pub encode_island_in_order : (hv : ℕ) (packet lent : List ℕ) → T (rising (encode_island_asks hv packet lent))
encode_island_in_order hv packet lent = tt

pub read_island_in_order : (lent packet : List ℕ) → T (rising (read_island_asks lent packet))
unfolding nowhere word_asks
read_island_in_order lent packet = tt
