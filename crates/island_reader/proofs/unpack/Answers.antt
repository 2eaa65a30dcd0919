-- `island_reader::unpack` meets its contract.
use mathlib.Core.Path.{◌≡◌, subst}
use mathlib.Core.List.{List}
use Prim.Native.Nat.{ℕ}
use native.Mathlib.Omega.{arith}
use Rattle.island_reader.specs.Numbers.{Unpacked}
use Rattle.island_reader.proofs.Unpacking.{headed_more, headed_all, all_unpacked}
use Rattle.island_reader.proofs.unpack.Goals as goal

pub loop-m-init : goal.loop-m-init
loop-m-init c = record { long = c.told-packet; head = λ k h. absurd (omega arith) }

pub loop-m-preserved : goal.loop-m-preserved
loop-m-preserved c =
    headed_more c.args.found.now c.loop-m.packet c.loop-m.m _ c.loop-m.invariant (omega arith) c.header_byte.ensures

pub loop-i-init : goal.loop-i-init
loop-i-init c = headed_all c.args.found.now c.loop-m.packet c.loop-m.m (omega arith) c.loop-m.invariant

pub returns : goal.returns
returns c =
    let ns : List ℕ = c.args.found.now in
    let l = c.loop-i in
    let e : l.i ≡ 8 = omega arith in
    all_unpacked ns l.packet (subst (λ (n : ℕ). Unpacked ns n l.packet) e l.invariant)
