-- A packet is 36 bytes, neither 35 nor 37; and what it held plays no part in what an accepted call leaves.
use mathlib.Core.Path.{◌≡◌}
use mathlib.Core.List.{List}
use Prim.Native.Nat.{ℕ}
use lib.Dec.{T}
use lib.ListN.{length}
use Rattle.std.specs.Prelude.{Ok, Err}
use Rattle.refusal.specs.declared.Refusal.TheVariants.{Length}
use Rattle.refusal.specs.Verdict.{verdict, kept, rising, Verdict}
use Rattle.blocks.specs.Asks.{packet_asks}

pub bytes_35 : (p : List ℕ) → length p ≡ 35 → verdict (packet_asks p) ≡ Err Length
bytes_35 p e = rw e

pub bytes_36 : (p : List ℕ) → length p ≡ 36 → verdict (packet_asks p) ≡ Ok tt
bytes_36 p e = rw e

pub bytes_37 : (p : List ℕ) → length p ≡ 37 → verdict (packet_asks p) ≡ Err Length
bytes_37 p e = rw e

pub join_in_order : (p : List ℕ) → T (rising (packet_asks p))
join_in_order p = tt

-- two packets that are lent and accepted hold the same afterwards
pub nothing_old : {v w : Verdict} (new p q : List ℕ) → v ≡ Ok tt → w ≡ Ok tt → kept v new p ≡ kept w new q
nothing_old new p q e f = rw (e, f)
