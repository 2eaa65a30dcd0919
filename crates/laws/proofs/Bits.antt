-- What each operation on a word does to one bit of it, and that a number is its bits.
use mathlib.Core.Path.{◌≡◌, sym, ap, ap₂, ◌∙◌}
use Prim.Native.Nat.{ℕ, zero, suc, ◌+◌, ◌-◌, ◌*◌, ◌/◌, ◌%◌, ◌^◌, ◌≤◌, ◌<◌, min, max}
use native.Mathlib.Nat.{mul_assoc, mul-mod_left, div-add-mod', div-one, lt_of_lt_of_le, div-eq_of_lt}
use native.Mathlib.Omega.{arith}
use native.Mathlib.Numerals.{add-one}
use lib.Arith.{digits_mod, lt-one}
use lib.Pow.{shr-shr, shl-shr, field, mod-mod-pow, pow_mono, pow-add, shr_lt}
use lib.Bits.{bit_and, bit_or, bit_xor, differ, or_shr, or_step, and_shr, and_step, xor_shr, xor_step}
use Rattle.laws.specs.Bit.{bit}
use Rattle.laws.proofs.Xor.{on_bit, odd_lt}

pub bit_lt : (k n : ℕ) → bit k n < 2
unfolding bit
bit_lt k n = odd_lt (n / 2 ^ k)

differ_lt : (x y : ℕ) → x < 2 → y < 2 → differ x y < 2
differ_lt x y hx hy = on_bit (λ (a : ℕ). differ a y < 2) hy (on_bit (λ (b : ℕ). differ 1 b < 2) (omega arith) (omega arith) y hy) x hx

-- an operation that goes bit by bit: shifted by k, its lowest bit is that of the operands' bits k
module _ (op digit : ℕ → ℕ → ℕ) (shr : (a b k : ℕ) → op a b / 2 ^ k ≡ op (a / 2 ^ k) (b / 2 ^ k)) (step : (a b : ℕ) → op a b ≡ op (a / 2) (b / 2) * 2 + digit (a % 2) (b % 2)) (small : (x y : ℕ) → x < 2 → y < 2 → digit x y < 2) where
  bit_by_bit : (k a b : ℕ) → bit k (op a b) ≡ digit (bit k a) (bit k b)
  unfolding bit
  bit_by_bit k a b =
      ap (λ (x : ℕ). x % 2) (shr a b k ∙ step (a / 2 ^ k) (b / 2 ^ k))
      ∙ digits_mod (op (a / 2 ^ k / 2) (b / 2 ^ k / 2)) (small (a / 2 ^ k % 2) (b / 2 ^ k % 2) (odd_lt (a / 2 ^ k)) (odd_lt (b / 2 ^ k)))

pub bit-xor : (k a b : ℕ) → bit k (bit_xor a b) ≡ differ (bit k a) (bit k b)
bit-xor = bit_by_bit bit_xor differ xor_shr xor_step differ_lt

pub bit-and : (k a b : ℕ) → bit k (bit_and a b) ≡ min (bit k a) (bit k b)
bit-and = bit_by_bit bit_and min and_shr and_step (λ x y h l. omega arith)

pub bit-or : (k a b : ℕ) → bit k (bit_or a b) ≡ max (bit k a) (bit k b)
bit-or = bit_by_bit bit_or max or_shr or_step (λ x y h l. omega arith)

-- shifted right by j
pub bit_shr : (k j n : ℕ) → bit k (n / 2 ^ j) ≡ bit (j + k) n
unfolding bit
bit_shr k j n = ap (λ (x : ℕ). x % 2) (shr-shr n j k)

-- shifted left by j: the bits move up, and zeros come in
pub bit-shl : (k j n : ℕ) → bit (j + k) (n * 2 ^ j) ≡ bit k n
bit-shl k j n = sym (bit_shr k j (n * 2 ^ j)) ∙ ap (bit k) (shl-shr n j)

pub bit_shl_low : (k j n : ℕ) → k < j → bit k (n * 2 ^ j) ≡ 0
unfolding bit
bit_shl_low k j n h =
    let d : ℕ = j - (1 + k) in
    let e : j ≡ (d + 1) + k = omega arith in
    ap (λ (u : ℕ). n * 2 ^ u / 2 ^ k % 2) e
    ∙ ap (λ (x : ℕ). n * x / 2 ^ k % 2) (pow-add 2 (d + 1) k)
    ∙ ap (λ (x : ℕ). x / 2 ^ k % 2) (sym (mul_assoc n (2 ^ (d + 1)) (2 ^ k)))
    ∙ ap (λ (x : ℕ). x % 2) (shl-shr (n * 2 ^ (d + 1)) k)
    ∙ ap (λ (x : ℕ). n * x % 2) (pow-add 2 d 1)
    ∙ ap (λ (x : ℕ). x % 2) (sym (mul_assoc n (2 ^ d) 2))
    ∙ mul-mod_left (n * 2 ^ d) 2

-- cut to w bits: those below w stay
pub bit_mod : (k w n : ℕ) → k < w → bit k (n % 2 ^ w) ≡ bit k n
unfolding bit
bit_mod k w n h =
    let d : ℕ = w - (1 + k) in
    let e : w ≡ (d + 1) + k = omega arith in
    ap (λ (u : ℕ). n % 2 ^ u / 2 ^ k % 2) e ∙ ap (λ (x : ℕ). x % 2) (field n (d + 1) k) ∙ mod-mod-pow (n / 2 ^ k) d 1

-- a number of w bits has none from w on
pub bit_high : (k w n : ℕ) → n < 2 ^ w → w ≤ k → bit k n ≡ 0
unfolding bit
bit_high k w n h l = ap (λ (x : ℕ). x % 2) (div-eq_of_lt (lt_of_lt_of_le h (pow_mono l)))

pub bit_zero : (n : ℕ) → bit 0 n ≡ n % 2
unfolding bit
bit_zero n = ap (λ (x : ℕ). x % 2) (div-one n)

-- two numbers of w bits that agree in each are equal
pub bit_ext : (w a b : ℕ) → a < 2 ^ w → b < 2 ^ w → ((k : ℕ) → k < w → bit k a ≡ bit k b) → a ≡ b
bit_ext zero a b ha hb f = lt-one ha ∙ sym (lt-one hb)
bit_ext (suc w) a b ha hb f =
    let lo : a % 2 ≡ b % 2 = sym (bit_zero a) ∙ f 0 (omega arith) ∙ bit_zero b in
    let up : (k : ℕ) → k < w → bit k (a / 2) ≡ bit k (b / 2) = λ k h. bit_shr k 1 a ∙ f (1 + k) (omega arith) ∙ sym (bit_shr k 1 b) in
    let half : (n : ℕ) → n < 2 ^ suc w → n / 2 < 2 ^ w = λ n h. shr_lt w 1 (rw add-one h) in
    let hi : a / 2 ≡ b / 2 = bit_ext w (a / 2) (b / 2) (half a ha) (half b hb) up in
    sym (div-add-mod' a 2) ∙ ap₂ (λ (x y : ℕ). x * 2 + y) hi lo ∙ div-add-mod' b 2
