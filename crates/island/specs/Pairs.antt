-- Lanes 1 and 2 of an island's character by the byte of its bit pairs, that of subpacket s at bit 2 s.
use Rattle.std.specs.Prelude.{ℕ, ◌+◌, ◌*◌}
use Rattle.laws.specs.Bit.{bit}
use Rattle.laws.specs.Digits.{numeral}
use Rattle.dvi.specs.Lanes.{lanes}
use Rattle.hdmi.specs.Terc4.{terc4}

-- the even bits of a byte, and its odd ones, as numbers of four bits
abbrev pub evens : ℕ → ℕ
evens x = numeral 1 (λ s. bit (2 * s) x) 0 4

abbrev pub odds : ℕ → ℕ
odds x = numeral 1 (λ s. bit (2 * s + 1) x) 0 4

-- the even bits as a symbol on lane 1, the odd ones on lane 2, and lane 0 empty
unfoldable pub two_lanes : ℕ → ℕ
two_lanes x = lanes 0 (terc4 (evens x)) (terc4 (odds x))
