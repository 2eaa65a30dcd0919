-- What the digits of two samples add up to is the frame's subpacket: each side of it is linear in the sample, and so is the parity byte.
use mathlib.Core.Path.{◌≡◌, refl, sym, ap, ap₂, subst, ◌∙◌}
use Prim.Native.Nat.{ℕ, ◌+◌, ◌*◌, ◌/◌, ◌%◌, ◌^◌, ◌<◌}
use native.Mathlib.Nat.{mod-lt, mul-one}
use native.Mathlib.Omega.{arith}
use lib.Bits.{bit_xor, xor_comm, xor_shifted}
use lib.Count.{ones, ones_in}
use lib.Pow.{pow_pos, split}
use Rattle.laws.specs.Bytes.{low_first, from_low}
use Rattle.laws.proofs.Bytes.{read_written}
use Rattle.laws.proofs.Finite.{agreed}
use Rattle.laws.proofs.Linear.{Linear, linear_sum, linear_after, linear_shl}
use Rattle.laws.proofs.Ones.{odd_linear}
use Rattle.laws.proofs.Xor.{on_bit, odd_lt, xor_swap, xor_assoc}
use Rattle.hdmi.specs.Parity.{parity, sent, with_parity}
use Rattle.hdmi.specs.Audio.{status}
use Rattle.hdmi.proofs.Built.{status_both}
use Rattle.parity.specs.Word.{shl}
use Rattle.parity.proofs.Sealing.{sealing, sealing_linear, sealing_bytes}
use Rattle.audio_words.specs.Frames.{frame_of, digit_rule}

-- ---- one sample, with its lowest bit in bit `at` and the mark of an odd number of ones in bit p

module _ (at p : ℕ) where
  abbrev pub side : ℕ → ℕ
  side x = bit_xor (shl at x) (shl p (ones x % 2))

  unfoldable pub added : ℕ → ℕ
  added x = sealing (side x)

  side_linear : Linear side
  side_linear = linear_sum (shl at) (λ x. shl p (ones x % 2)) (linear_shl 64 at) (linear_after (λ x. ones x % 2) (shl p) odd_linear (linear_shl 64 p))

  added_linear : Linear added
  unfolding added
  added_linear = linear_after side sealing side_linear sealing_linear

-- ---- a number's digits

apart : (f : ℕ → ℕ) → Linear f → (k x : ℕ) → f x ≡ bit_xor (f (x / 2 ^ k * 2 ^ k)) (f (x % 2 ^ k))
apart f l k x =
    ap f (sym (xor_shifted (x / 2 ^ k) k (x % 2 ^ k) (mod-lt x (pow_pos k)) ∙ split x k)) ∙ l (x / 2 ^ k * 2 ^ k) (x % 2 ^ k)

-- four digits of four bits, the highest first
by_digits : (f : ℕ → ℕ) → Linear f → (x : ℕ) → x < 65536
    → f x ≡ bit_xor (bit_xor (bit_xor (f (x / 4096 * 4096)) (f (x / 256 % 16 * 256))) (f (x / 16 % 16 * 16))) (f (x % 16))
by_digits f l x h =
    let y : ℕ = x / 16 * 16 in
    let z : ℕ = x / 256 * 256 in
    let y-high : y / 256 * 256 ≡ z = omega arith in
    let y-low : y % 256 ≡ x / 16 % 16 * 16 = omega arith in
    let z-high : z / 4096 * 4096 ≡ x / 4096 * 4096 = omega arith in
    let z-low : z % 4096 ≡ x / 256 % 16 * 256 = omega arith in
    apart f l 4 x
    ∙ ap (λ (v : ℕ). bit_xor v (f (x % 16)))
    (apart f l 8 y ∙ ap₂ (λ (a b : ℕ). bit_xor (f a) (f b)) y-high y-low
    ∙ ap (λ (v : ℕ). bit_xor v (f (x / 16 % 16 * 16))) (apart f l 12 z ∙ ap₂ (λ (a b : ℕ). bit_xor (f a) (f b)) z-high z-low))

-- the table's rule is what a digit adds, at each of the four places
abbrev Digits : (at p : ℕ) → Type 0
Digits at p = (m : ℕ) → m < 64 → digit_rule (at + 4 * (m / 16)) p (m % 16) ≡ added at p (m % 16 * 16 ^ (m / 16))

pub left_digits : Digits 8 51
unfolding added sealing parity sent ones ones_in
left_digits = agreed (λ m. digit_rule (8 + 4 * (m / 16)) 51 (m % 16)) (λ m. added 8 51 (m % 16 * 16 ^ (m / 16))) 64 tt

pub right_digits : Digits 32 55
unfolding added sealing parity sent ones ones_in
right_digits = agreed (λ m. digit_rule (32 + 4 * (m / 16)) 55 (m % 16)) (λ m. added 32 55 (m % 16 * 16 ^ (m / 16))) 64 tt

module _ (at p : ℕ) (rule : Digits at p) where
  digit : (k x : ℕ) → k < 4 → x < 16 → digit_rule (at + 4 * k) p x ≡ added at p (x * 16 ^ k)
  digit k x hk hx =
      let place : (16 * k + x) / 16 ≡ k = omega arith in
      let value : (16 * k + x) % 16 ≡ x = omega arith in
      ap₂ (λ (j y : ℕ). digit_rule (at + 4 * j) p y) (sym place) (sym value)
      ∙ rule (16 * k + x) (omega arith)
      ∙ ap₂ (λ (j y : ℕ). added at p (y * 16 ^ j)) place value

  pub digits_added : (x : ℕ) {a b c d : ℕ} → x < 65536 → a ≡ digit_rule (at + 4 * 3) p (x / 4096) → b ≡ digit_rule (at + 4 * 2) p (x / 256 % 16)
      → c ≡ digit_rule (at + 4 * 1) p (x / 16 % 16) → d ≡ digit_rule (at + 4 * 0) p (x % 16) → bit_xor (bit_xor (bit_xor a b) c) d ≡ added at p x
  digits_added x h ea eb ec ed =
      let e3 = ea ∙ digit 3 (x / 4096) (omega arith) (omega arith) in
      let e2 = eb ∙ digit 2 (x / 256 % 16) (omega arith) (omega arith) in
      let e1 = ec ∙ digit 1 (x / 16 % 16) (omega arith) (omega arith) in
      let e0 = ed ∙ digit 0 (x % 16) (omega arith) (omega arith) ∙ ap (added at p) (mul-one (x % 16)) in
      ap₂ bit_xor (ap₂ bit_xor (ap₂ bit_xor e3 e2) e1) e0 ∙ sym (by_digits (added at p) (added_linear at p) x h)

-- ---- both samples, and V and P of two zeros

marks : (p q : ℕ) → p < 2 → q < 2 → bit_xor (bit_xor (shl 51 p) (shl 55 q)) (0x99 * 2 ^ 48) ≡ bit_xor (p * 8 + q * 128) 0x99 * 2 ^ 48
marks p q hp hq =
    on_bit (λ (p : ℕ). bit_xor (bit_xor (shl 51 p) (shl 55 q)) (0x99 * 2 ^ 48) ≡ bit_xor (p * 8 + q * 128) 0x99 * 2 ^ 48)
    (on_bit (λ (q : ℕ). bit_xor (bit_xor 0 (shl 55 q)) (0x99 * 2 ^ 48) ≡ bit_xor (0 + q * 128) 0x99 * 2 ^ 48) refl refl q hq)
    (on_bit (λ (q : ℕ). bit_xor (bit_xor (2 ^ 51) (shl 55 q)) (0x99 * 2 ^ 48) ≡ bit_xor (8 + q * 128) 0x99 * 2 ^ 48) refl refl q hq) p hp

zeros : 0x3399000000000000 ≡ sealing (0x99 * 2 ^ 48)
unfolding sealing parity sent
zeros = refl

module _ (l r : ℕ) (hl : l < 65536) (hr : r < 65536) where
  abbrev both : ℕ
  both = status l + 16 * status r

  both_lt : both < 256
  both_lt = omega arith

  -- the frame's seven bytes as a number
  framed : bit_xor (bit_xor (side 8 51 l) (side 32 55 r)) (0x99 * 2 ^ 48) ≡ from_low (frame_of l r)
  framed =
      let p : ℕ = ones l % 2 in
      let q : ℕ = ones r % 2 in
      let low : shl 8 l ≡ l * 2 ^ 8 = omega arith in
      let high : shl 32 r ≡ r * 2 ^ 32 = omega arith in
      let bits : bit_xor (shl 8 l) (shl 32 r) ≡ r * 2 ^ 32 + l * 2 ^ 8 =
      ap₂ bit_xor low high ∙ xor_comm (l * 2 ^ 8) (r * 2 ^ 32) ∙ xor_shifted r 32 (l * 2 ^ 8) (omega arith) in
      let marked : bit_xor (bit_xor (shl 51 p) (shl 55 q)) (0x99 * 2 ^ 48) ≡ both * 2 ^ 48 =
      marks p q (odd_lt (ones l)) (odd_lt (ones r)) ∙ ap (λ (v : ℕ). v * 2 ^ 48) (sym (status_both l r)) in
      ap (λ (v : ℕ). bit_xor v (0x99 * 2 ^ 48)) (xor_swap (shl 8 l) (shl 51 p) (shl 32 r) (shl 55 q))
      ∙ xor_assoc (bit_xor (shl 8 l) (shl 32 r)) (bit_xor (shl 51 p) (shl 55 q)) (0x99 * 2 ^ 48)
      ∙ ap₂ bit_xor bits marked
      ∙ xor_comm (r * 2 ^ 32 + l * 2 ^ 8) (both * 2 ^ 48)
      ∙ xor_shifted both 48 (r * 2 ^ 32 + l * 2 ^ 8) (omega arith)
      ∙ omega arith

  pub frame-sealed : low_first 8 (bit_xor (bit_xor (added 8 51 l) (added 32 55 r)) 0x3399000000000000) ≡ with_parity (frame_of l r)
  unfolding added
  frame-sealed =
      let bytes : ℕ = bit_xor (bit_xor (side 8 51 l) (side 32 55 r)) (0x99 * 2 ^ 48) in
      let small : bytes < 2 ^ 56 = subst (λ (w : ℕ). w < 2 ^ 56) (sym framed) (omega (arith, both_lt)) in
      ap (low_first 8)
      (ap₂ bit_xor (sym (sealing_linear (side 8 51 l) (side 32 55 r))) zeros ∙ sym (sealing_linear (bit_xor (side 8 51 l) (side 32 55 r)) (0x99 * 2 ^ 48)))
      ∙ sealing_bytes bytes small
      ∙ ap (λ (w : ℕ). with_parity (low_first 7 w)) framed
      ∙ ap with_parity (read_written (frame_of l r) (omega arith, (omega arith, (omega arith, (omega arith, (omega arith, (omega arith, (both_lt, tt))))))))
