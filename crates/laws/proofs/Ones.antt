-- Whether a number has an odd number of ones is linear in exclusive or.
use mathlib.Core.Path.{◌≡◌, refl, ap, ap₂, ◌∙◌}
use Prim.Native.Nat.{ℕ, ◌+◌, ◌/◌, ◌%◌, ◌<◌}
use native.Mathlib.Omega.{arith}
use lib.Arith.{bin_ind}
use lib.Bits.{bit_xor}
use lib.Count.{ones, ones_in, ones_step}
use Rattle.laws.proofs.Linear.{Linear}
use Rattle.laws.proofs.Xor.{on_bit, odd_lt, xor_half, xor_odd}

-- one bit more on each side
more_bits : (x y u v : ℕ) → x < 2 → y < 2 → u < 2 → v < 2 → (bit_xor x y + bit_xor u v) % 2 ≡ bit_xor ((x + u) % 2) ((y + v) % 2)
more_bits x y u v hx hy hu hv =
    on_bit (λ (x : ℕ). (bit_xor x y + bit_xor u v) % 2 ≡ bit_xor ((x + u) % 2) ((y + v) % 2))
    (on_bit (λ (y : ℕ). (y + bit_xor u v) % 2 ≡ bit_xor ((0 + u) % 2) ((y + v) % 2))
    (on_bit (λ (u : ℕ). (0 + bit_xor u v) % 2 ≡ bit_xor ((0 + u) % 2) ((0 + v) % 2))
    (on_bit (λ (v : ℕ). (0 + v) % 2 ≡ (0 + v) % 2) refl refl v hv)
    (on_bit (λ (v : ℕ). (0 + bit_xor 1 v) % 2 ≡ bit_xor 1 ((0 + v) % 2)) refl refl v hv) u hu)
    (on_bit (λ (u : ℕ). (1 + bit_xor u v) % 2 ≡ bit_xor ((0 + u) % 2) ((1 + v) % 2))
    (on_bit (λ (v : ℕ). (1 + v) % 2 ≡ (1 + v) % 2) refl refl v hv)
    (on_bit (λ (v : ℕ). (1 + bit_xor 1 v) % 2 ≡ bit_xor 1 ((1 + v) % 2)) refl refl v hv) u hu)
    y hy)
    (on_bit (λ (y : ℕ). (bit_xor 1 y + bit_xor u v) % 2 ≡ bit_xor ((1 + u) % 2) ((y + v) % 2))
    (on_bit (λ (u : ℕ). (1 + bit_xor u v) % 2 ≡ bit_xor ((1 + u) % 2) ((0 + v) % 2))
    (on_bit (λ (v : ℕ). (1 + v) % 2 ≡ bit_xor 1 ((0 + v) % 2)) refl refl v hv)
    (on_bit (λ (v : ℕ). (1 + bit_xor 1 v) % 2 ≡ (0 + v) % 2) refl refl v hv) u hu)
    (on_bit (λ (u : ℕ). (0 + bit_xor u v) % 2 ≡ bit_xor ((1 + u) % 2) ((1 + v) % 2))
    (on_bit (λ (v : ℕ). (0 + v) % 2 ≡ bit_xor 1 ((1 + v) % 2)) refl refl v hv)
    (on_bit (λ (v : ℕ). (0 + bit_xor 1 v) % 2 ≡ (1 + v) % 2) refl refl v hv) u hu)
    y hy)
    x hx

step : (n : ℕ) → ones n % 2 ≡ (n % 2 + ones (n / 2) % 2) % 2
step n = omega (arith, ones_step n)

zero_first : (b : ℕ) → ones b % 2 ≡ bit_xor (ones 0 % 2) (ones b % 2)
unfolding ones ones_in
zero_first b = refl

pub odd_linear : Linear (λ n. ones n % 2)
odd_linear =
    bin_ind (λ (n : ℕ). (b : ℕ) → ones (bit_xor n b) % 2 ≡ bit_xor (ones n % 2) (ones b % 2)) zero_first
    (λ n ih b.
    step (bit_xor n b)
    ∙ ap₂ (λ (x z : ℕ). (x + z) % 2) (xor_odd n b) (ap (λ (m : ℕ). ones m % 2) (xor_half n b) ∙ ih (b / 2))
    ∙ more_bits (n % 2) (b % 2) (ones (n / 2) % 2) (ones (b / 2) % 2) (odd_lt n) (odd_lt b) (odd_lt (ones (n / 2))) (odd_lt (ones (b / 2)))
    ∙ rw (step n, step b))
