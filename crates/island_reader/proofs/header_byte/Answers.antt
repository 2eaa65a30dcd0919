-- `island_reader::header_byte` meets its contract.
use mathlib.Core.Path.{◌≡◌, ap, ◌∙◌}
use Prim.Native.Nat.{ℕ, ◌+◌, ◌-◌, ◌*◌}
use native.Mathlib.Omega.{arith}
use Rattle.laws.specs.Digits.{numeral}
use Rattle.island_reader.specs.Numbers.{header_in, header_byte_in}
use Rattle.island_reader.proofs.Regroup.{header_part_lt}
use Rattle.island_reader.proofs.header_byte.Goals as goal

pub overflow_mul-byte : goal.overflow_mul-byte
overflow_mul-byte c = record { fits = omega (arith, c.loop-n.invariant, header_part_lt c.args.found.now c.args.i c.loop-n.n) }

pub overflow_add-byte : goal.overflow_add-byte
overflow_add-byte c = record { fits = omega (arith, c.loop-n.invariant, header_part_lt c.args.found.now c.args.i c.loop-n.n) }

pub overflow_cast-result : goal.overflow_cast-result
overflow_cast-result c = record { fits = omega (arith, c.loop-n.invariant, header_part_lt c.args.found.now c.args.i c.loop-n.n) }

pub returns : goal.returns
unfolding header_byte_in
returns c =
    let none : c.loop-n.n ≡ 0 = omega arith in
    c.loop-n.invariant ∙ ap (λ (n : ℕ). numeral 1 (λ n. header_in c.args.found.now (8 * c.args.i + n)) n (8 - n)) none
