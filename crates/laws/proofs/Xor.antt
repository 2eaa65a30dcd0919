-- Exclusive or: what the library's `bit_xor` lacks.
use mathlib.Core.Path.{◌≡◌, refl, sym, ap, ap₂, ◌∙◌}
use Prim.Native.Nat.{ℕ, zero, suc, ◌+◌, ◌*◌, ◌/◌, ◌%◌, ◌<◌}
use native.Mathlib.Nat.{mod-lt, zero-lt-suc, div-add-mod'}
use native.Mathlib.Omega.{arith}
use lib.Arith.{bin_ind}
use lib.Bits.{bit_xor, xor_comm, xor_shr, xor_mod}

-- a statement about a bit, from its two instances
pub on_bit : (P : ℕ → Type 0) → P 0 → P 1 → (b : ℕ) → b < 2 → P b
on_bit P p q zero h = p
on_bit P p q (suc zero) h = q
on_bit P p q (suc (suc b)) h = absurd (omega arith)

pub odd_lt : (n : ℕ) → n % 2 < 2
odd_lt n = mod-lt n (zero-lt-suc 1)

pub xor_half : (a b : ℕ) → bit_xor a b / 2 ≡ bit_xor (a / 2) (b / 2)
xor_half a b = xor_shr a b 1

pub xor_odd : (a b : ℕ) → bit_xor a b % 2 ≡ bit_xor (a % 2) (b % 2)
xor_odd a b = xor_mod a b 1

-- a number is its half and its lowest bit
pub by_half : {x y : ℕ} → x / 2 ≡ y / 2 → x % 2 ≡ y % 2 → x ≡ y
by_half {x} {y} p q = sym (div-add-mod' x 2) ∙ ap₂ (λ (h l : ℕ). h * 2 + l) p q ∙ div-add-mod' y 2

assoc_bit : (a b c : ℕ) → a < 2 → b < 2 → c < 2 → bit_xor (bit_xor a b) c ≡ bit_xor a (bit_xor b c)
assoc_bit a b c ha hb hc =
    on_bit (λ (x : ℕ). bit_xor (bit_xor x b) c ≡ bit_xor x (bit_xor b c)) refl
    (on_bit (λ (y : ℕ). bit_xor (bit_xor 1 y) c ≡ bit_xor 1 (bit_xor y c)) refl
    (on_bit (λ (z : ℕ). bit_xor 0 z ≡ bit_xor 1 (bit_xor 1 z)) refl refl c hc)
    b hb)
    a ha

pub xor_assoc : (a b c : ℕ) → bit_xor (bit_xor a b) c ≡ bit_xor a (bit_xor b c)
xor_assoc =
    bin_ind (λ (n : ℕ). (b c : ℕ) → bit_xor (bit_xor n b) c ≡ bit_xor n (bit_xor b c)) (λ b c. refl)
    (λ n ih b c. by_half (simp xor_half (ih (b / 2) (c / 2))) (simp xor_odd (assoc_bit (n % 2) (b % 2) (c % 2) (odd_lt n) (odd_lt b) (odd_lt c))))

-- of two pairs, the inner two change places
pub xor_swap : (a b c d : ℕ) → bit_xor (bit_xor a b) (bit_xor c d) ≡ bit_xor (bit_xor a c) (bit_xor b d)
xor_swap a b c d =
    xor_assoc a b (bit_xor c d)
    ∙ ap (bit_xor a) (sym (xor_assoc b c d) ∙ ap (λ (x : ℕ). bit_xor x d) (xor_comm b c) ∙ xor_assoc c b d)
    ∙ sym (xor_assoc a c (bit_xor b d))
