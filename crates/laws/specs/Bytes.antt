-- Numbers as bytes, low byte first, at any width in bytes.
use Rattle.std.specs.Prelude.{List, [], ◌∷◌, ◌++◌, ℕ, zero, suc, ◌+◌, ◌*◌, ◌/◌, ◌%◌, ◌<◌, take, drop}

-- the w lowest bytes of x
abbrev pub low_first : ℕ → ℕ → List ℕ
low_first zero x = []
low_first (suc w) x = x % 256 ∷ low_first w (x / 256)

-- the number that the bytes make
abbrev pub from_low : List ℕ → ℕ
from_low [] = 0
from_low (b ∷ bs) = b + 256 * from_low bs

-- numbers of w bytes each, one after the other
abbrev pub bytes_of : ℕ → List ℕ → List ℕ
bytes_of w [] = []
bytes_of w (x ∷ xs) = low_first w x ++ bytes_of w xs

-- the first n numbers of w bytes each
abbrev pub numbers_of : ℕ → ℕ → List ℕ → List ℕ
numbers_of w zero bs = []
numbers_of w (suc n) bs = from_low (take w bs) ∷ numbers_of w n (drop w bs)

-- every element is a byte
abbrev pub Bytes : List ℕ → Type 0
Bytes [] = Unit {0}
Bytes (b ∷ bs) = (b < 256) × Bytes bs
