-- `island_reader::group` meets its contract.
use mathlib.Core.Path.{ap}
use mathlib.Core.List.{List}
use Prim.Native.Nat.{ℕ, ◌*◌, ◌/◌, ◌%◌}
use native.Mathlib.Nat.{add-zero}
use native.Mathlib.Omega.{arith}
use lib.ListN.{get_or}
use Rattle.island_reader.proofs.Regroup.{group-is}
use Rattle.island_reader.proofs.group.Goals as goal

pub returns : goal.returns
returns c =
    let ns : List ℕ = c.args.found.now in
    let i : ℕ = c.args.i in
    let first = ap (λ (m : ℕ). get_or ns m 0 / 16 % 256) (add-zero (4 * i)) in
    group-is ns i c.from_le_bytes.result c.shuffle.result c.transpose.result (omega (arith, c.from_le_bytes.ensures, c.lanes_1_2.ensures, c.lanes_1_2-2.ensures, c.lanes_1_2-3.ensures, c.lanes_1_2-4.ensures, first)) c.shuffle.ensures c.transpose.ensures c.transpose.type_inv
