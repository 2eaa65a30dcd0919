-- The room's entries ask in the table's order, so that the refusal given is the lowest that applies.
use Prim.Native.Nat.{ℕ}
use lib.Dec.{T}
use lib.IntN.{ℤ}
use Rattle.refusal.specs.Verdict.{rising}
use Rattle.symbol.specs.Encode.{encode_asks}
use Rattle.symbol.specs.Pair.{join_asks, balanced_asks}

pub encode_in_order : (d : ℤ) → T (rising (encode_asks d))
encode_in_order d = tt

pub join_in_order : (s t : ℕ) → T (rising (join_asks s t))
join_in_order s t = tt

pub balanced_in_order : (b c : ℕ) → T (rising (balanced_asks b c))
balanced_in_order b c = tt
