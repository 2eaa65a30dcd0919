-- A symbol as a line of text: three lower-case hexadecimal digits, the highest first, and a line feed, in ASCII.
use Rattle.std.specs.Prelude.{cond, List, [], ◌∷◌, ◌++◌, ℕ, ◌+◌, ◌/◌, ◌%◌, ltb}

-- 0 to 9, then a to f
abbrev pub digit_of : ℕ → ℕ
digit_of n = cond (ltb n 10) (48 + n) (87 + n)

abbrev pub line_of : ℕ → List ℕ
line_of s = digit_of (s / 256 % 16) ∷ digit_of (s / 16 % 16) ∷ digit_of (s % 16) ∷ 10 ∷ []

abbrev pub text_of : List ℕ → List ℕ
text_of [] = []
text_of (s ∷ ss) = line_of s ++ text_of ss
