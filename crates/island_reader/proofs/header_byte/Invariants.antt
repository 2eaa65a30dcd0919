-- `island_reader::header_byte`: the bits from n on.
use mathlib.Core.Path.{◌≡◌}
use Prim.Native.Nat.{◌+◌, ◌-◌, ◌*◌}
use Rattle.laws.specs.Digits.{numeral}
use Rattle.island_reader.specs.Numbers.{header_in}
use Rattle.island_reader.proofs.header_byte.Given as goal

abbrev pub invariant-loop-n : goal.invariant-loop-n
invariant-loop-n l = l.byte ≡ numeral 1 (λ n. header_in l.found (8 * l.i + n)) l.n (8 - l.n)
