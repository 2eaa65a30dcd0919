-- A number from its digits.
use Rattle.std.specs.Prelude.{ℕ, zero, suc, ◌+◌, ◌*◌, ◌^◌}

-- the number with the digits f i, f (i + 1), .., n of them, of w bits each, the lowest first
abbrev pub numeral : ℕ → (ℕ → ℕ) → ℕ → ℕ → ℕ
numeral w f i zero = 0
numeral w f i (suc n) = numeral w f (suc i) n * 2 ^ w + f i
