-- Two's complement, in any number of bits.
use Rattle.std.specs.Prelude.{cond, ℕ, suc, ◌-◌, ◌^◌, ltb, ℤ, pos, negsuc}

-- the number whose w bits are x
abbrev pub signed : ℕ → ℕ → ℤ
signed w x = cond (ltb x (2 ^ (w - 1))) (pos x) (negsuc (2 ^ w - suc x))

-- the w bits of a number
abbrev pub bits_of : ℕ → ℤ → ℕ
bits_of w (pos n) = n
bits_of w (negsuc n) = 2 ^ w - suc n
