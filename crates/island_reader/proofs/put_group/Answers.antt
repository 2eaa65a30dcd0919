-- `island_reader::put_group` meets its contract.
use mathlib.Core.Path.{◌≡◌, ap, ◌∙◌}
use mathlib.Core.List.{List}
use Prim.Native.Nat.{ℕ, ◌/◌, ◌%◌, ◌^◌}
use native.Mathlib.Omega.{arith}
use lib.ListN.{get_or}
use Rattle.island_reader.specs.Numbers.{group_in}
use Rattle.island_reader.proofs.Regroup.{group_bytes}
use Rattle.island_reader.proofs.Unpacking.{with_group}
use Rattle.island_reader.proofs.put_group.Goals as goal

pub returns : goal.returns
returns c =
    let ns : List ℕ = c.args.found.now in
    let i : ℕ = c.args.i in
    let v : ℕ = c.group.result in
    let bytes : List ℕ = c.to_le_bytes.result in
    let byte = λ (s : ℕ). ap (λ (l : List ℕ). get_or l s 0) c.to_le_bytes.ensures in
    let b = group_bytes ns i in
    let e : v ≡ group_in ns i = c.group.ensures in
    let top : v / 16777216 % 256 ≡ v / 2 ^ 24 = omega arith in
    with_group ns c.args.packet.now i (get_or bytes 0 0) (get_or bytes 1 0) (get_or bytes 2 0) (get_or bytes 3 0) c.requires.0 c.requires.1
    (byte 0 ∙ ap (λ (x : ℕ). x % 256) e ∙ b.0) (byte 1 ∙ ap (λ (x : ℕ). x / 2 ^ 8 % 256) e ∙ b.1) (byte 2 ∙ ap (λ (x : ℕ). x / 2 ^ 16 % 256) e ∙ b.2)
    (byte 3 ∙ top ∙ ap (λ (x : ℕ). x / 2 ^ 24) e ∙ b.3)
