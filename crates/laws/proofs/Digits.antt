-- The bits of a number that is given by its digits, at any width and any number of digits.
use mathlib.Core.Path.{◌≡◌, refl, sym, ap, ap₂, subst, ◌∙◌}
use Prim.Native.Nat.{ℕ, zero, suc, ◌+◌, ◌*◌, ◌%◌, ◌^◌, ◌≤◌, ◌<◌}
use native.Mathlib.Nat.{add-zero, zero-add, add-suc, suc-add, add_comm, add_assoc, mul-zero, mul-suc, mul-one, suc-mul, mod-eq_of_lt}
use native.Mathlib.Omega.{arith}
use lib.Arith.{digits_lt}
use lib.Bits.{bit_or, or_shifted_r}
use lib.Pow.{pow_pos, pow-add, high, low}
use Rattle.laws.specs.Bit.{bit}
use Rattle.laws.specs.Digits.{numeral}
use Rattle.laws.proofs.Bits.{bit_lt, bit_zero, bit_mod, bit_shr, bit_ext}

-- digits that agree make the same number
pub numeral_agree : (w : ℕ) (f g : ℕ → ℕ) (i n : ℕ) → ((k : ℕ) → i ≤ k → k < i + n → f k ≡ g k) → numeral w f i n ≡ numeral w g i n
numeral_agree w f g i zero h = refl
numeral_agree w f g i (suc n) h =
    ap₂ (λ (x y : ℕ). x * 2 ^ w + y) (numeral_agree w f g (suc i) n (λ k l u. h k (omega arith) (omega arith)))
    (h i (omega arith) (omega arith))

module _ (w : ℕ) (f : ℕ → ℕ) (small : (j : ℕ) → f j < 2 ^ w) where
  pub numeral_lt : (i n : ℕ) → numeral w f i n < 2 ^ (n * w)
  numeral_lt i zero = pow_pos (0 * w)
  numeral_lt i (suc n) =
      subst (λ (x : ℕ). numeral w f i (suc n) < x) (sym (pow-add 2 (n * w) w) ∙ ap (λ (e : ℕ). 2 ^ e) (sym (suc-mul n w)))
      (digits_lt (numeral_lt (suc i) n) (small i))

  -- bit k of digit s
  pub numeral-bit : (i n s k : ℕ) → s < n → k < w → bit (w * s + k) (numeral w f i n) ≡ bit k (f (i + s))
  numeral-bit i zero s k h l = absurd (omega arith)
  numeral-bit i (suc n) zero k h l =
      let x : ℕ = numeral w f i (suc n) in
      ap (λ (j : ℕ). bit (j + k) x) (mul-zero w) ∙ ap (λ (j : ℕ). bit j x) (zero-add k) ∙ sym (bit_mod k w x l)
      ∙ ap (bit k) (low (numeral w f (suc i) n) w (small i) ∙ ap f (sym (add-zero i)))
  numeral-bit i (suc n) (suc s) k h l =
      let x : ℕ = numeral w f i (suc n) in
      let e : w * suc s + k ≡ w + (w * s + k) = ap (λ (j : ℕ). j + k) (mul-suc w s ∙ add_comm (w * s) w) ∙ add_assoc w (w * s) k in
      ap (λ (j : ℕ). bit j x) e ∙ sym (bit_shr (w * s + k) w x)
      ∙ ap (bit (w * s + k)) (high (numeral w f (suc i) n) w (small i))
      ∙ numeral-bit (suc i) n s k (omega arith) l ∙ ap (λ (j : ℕ). bit k (f j)) (suc-add i s ∙ sym (add-suc i s))

-- where the digits are bits, they are the number's bits
pub bits_bit : (f : ℕ → ℕ) → ((j : ℕ) → f j < 2) → (n s : ℕ) → s < n → bit s (numeral 1 f 0 n) ≡ f s
bits_bit f small n s h =
    let e : s ≡ 1 * s + 0 = omega arith in
    let d : f s % 2 ≡ f s = omega (arith, small s) in
    ap (λ (j : ℕ). bit j (numeral 1 f 0 n)) e ∙ numeral-bit 1 f small 0 n s 0 h (omega arith)
    ∙ ap (λ (j : ℕ). bit 0 (f j)) (zero-add s) ∙ bit_zero (f s) ∙ d

pub bits_lt : (f : ℕ → ℕ) → ((j : ℕ) → f j < 2) → (n : ℕ) → numeral 1 f 0 n < 2 ^ n
bits_lt f small n = subst (λ (e : ℕ). numeral 1 f 0 n < 2 ^ e) (mul-one n) (numeral_lt 1 f small 0 n)

-- a number of n bits is made of its bits
pub of_bits : (n x : ℕ) → x < 2 ^ n → numeral 1 (λ s. bit s x) 0 n ≡ x
of_bits n x h =
    bit_ext n (numeral 1 (λ s. bit s x) 0 n) x (bits_lt (λ s. bit s x) (λ s. bit_lt s x) n) h
    (λ k l. bits_bit (λ s. bit s x) (λ s. bit_lt s x) n k l)

-- a number of k bits, and another or-ed in above them in a word of w bits
pub or_above : (w k x y : ℕ) → x < 2 ^ k → y * 2 ^ k < 2 ^ w → bit_or x (y * 2 ^ k % 2 ^ w) ≡ y * 2 ^ k + x
or_above w k x y hx hy = ap (bit_or x) (mod-eq_of_lt hy) ∙ or_shifted_r y k x hx
