-- Maps that are linear in exclusive or. What such a map makes of the powers of two decides what it makes of every number.
use mathlib.Core.Path.{◌≡◌, sym, ap, ap₂, ◌∙◌}
use Prim.Native.Nat.{ℕ, zero, suc, ◌*◌, ◌/◌, ◌%◌, ◌^◌, ◌<◌}
use native.Mathlib.Nat.{add-zero, mod-lt, zero-mul, one-mul}
use native.Mathlib.Numerals.{one-add}
use native.Mathlib.Omega.{arith}
use lib.Arith.{lt-one}
use lib.Bits.{bit_xor, xor_self, xor_shr, xor_mod, xor_block, xor_shifted}
use lib.Pow.{pow_pos, shr_lt, split}
use Rattle.laws.proofs.Xor.{on_bit, xor_swap}

abbrev pub Linear : (ℕ → ℕ) → Type 0
Linear f = (a b : ℕ) → f (bit_xor a b) ≡ bit_xor (f a) (f b)

-- ---- which maps are

module _ (f g : ℕ → ℕ) (lf : Linear f) (lg : Linear g) where
  pub linear_sum : Linear (λ a. bit_xor (f a) (g a))
  linear_sum a b = ap₂ bit_xor (lf a b) (lg a b) ∙ xor_swap (f a) (f b) (g a) (g b)

  pub linear_after : Linear (λ a. g (f a))
  linear_after a b = ap g (lf a b) ∙ lg (f a) (f b)

pub linear_shr : (k : ℕ) → Linear (λ a. a / 2 ^ k)
linear_shr k a b = xor_shr a b k

-- shifted left in a word of w bits
pub linear_shl : (w k : ℕ) → Linear (λ a. a * 2 ^ k % 2 ^ w)
linear_shl w k a b =
    ap (λ (x : ℕ). x % 2 ^ w)
    (sym (add-zero (bit_xor a b * 2 ^ k)) ∙ sym (xor_block k a b 0 0 (pow_pos k) (pow_pos k))
    ∙ ap₂ bit_xor (add-zero (a * 2 ^ k)) (add-zero (b * 2 ^ k)))
    ∙ xor_mod (a * 2 ^ k) (b * 2 ^ k) w

-- ---- what decides them

pub linear_zero : (f : ℕ → ℕ) → Linear f → f 0 ≡ 0
linear_zero f l = ap f (sym (xor_self 0)) ∙ l 0 0 ∙ xor_self (f 0)

-- two linear maps that agree on the powers of two below 2 ^ n agree on all numbers below it
module _ (f g : ℕ → ℕ) (lf : Linear f) (lg : Linear g) where
  top : (n h : ℕ) → h < 2 → f (2 ^ n) ≡ g (2 ^ n) → f (h * 2 ^ n) ≡ g (h * 2 ^ n)
  top n h l e =
      on_bit (λ (x : ℕ). f (x * 2 ^ n) ≡ g (x * 2 ^ n)) (ap f (zero-mul (2 ^ n)) ∙ linear_zero f lf ∙ sym (ap g (zero-mul (2 ^ n)) ∙ linear_zero g lg))
      (ap f (one-mul (2 ^ n)) ∙ e ∙ sym (ap g (one-mul (2 ^ n)))) h l

  pub linear_ext : (n : ℕ) → ((k : ℕ) → k < n → f (2 ^ k) ≡ g (2 ^ k)) → (a : ℕ) → a < 2 ^ n → f a ≡ g a
  linear_ext zero e a h = ap f (lt-one h) ∙ linear_zero f lf ∙ sym (ap g (lt-one h) ∙ linear_zero g lg)
  linear_ext (suc n) e a h =
      let low : a % 2 ^ n < 2 ^ n = mod-lt a (pow_pos n) in
      let parts : a ≡ bit_xor (a / 2 ^ n * 2 ^ n) (a % 2 ^ n) = sym (xor_shifted (a / 2 ^ n) n (a % 2 ^ n) low ∙ split a n) in
      ap f parts
      ∙ lf (a / 2 ^ n * 2 ^ n) (a % 2 ^ n)
      ∙ ap₂ bit_xor (top n (a / 2 ^ n) (shr_lt 1 n (rw one-add h)) (e n (omega arith))) (linear_ext n (λ k l. e k (omega arith)) (a % 2 ^ n) low)
      ∙ sym (lg (a / 2 ^ n * 2 ^ n) (a % 2 ^ n))
      ∙ sym (ap g parts)
