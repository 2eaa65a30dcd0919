-- The bytes of a word that has another byte above it or zeros below it, what that means for their parity, and the word whose top byte is the parity
-- of the others: it is linear.
use mathlib.Core.Path.{◌≡◌, refl, ap, ap₂, ◌∙◌, subst, sym}
use mathlib.Core.List.{List, [], ◌∷◌, ◌++◌}
use Prim.Native.Nat.{ℕ, zero, suc, ◌+◌, ◌*◌, ◌/◌, ◌%◌, ◌^◌, ◌<◌}
use native.Mathlib.Nat.{pow-suc, mul_assoc, mul_comm, mod-add-div, div-div-eq-div-mul, zero-add, suc-add, one-mul}
use native.Mathlib.Omega.{arith}
use lib.Bits.{bit_xor, xor_lt, xor_comm, xor_shifted}
use lib.Dec.{eqb}
use lib.ListN.{get_or, take, replicate}
use Rattle.laws.specs.Bytes.{low_first}
use Rattle.laws.proofs.Linear.{Linear, linear_sum, linear_after, linear_shl}
use Rattle.laws.proofs.Xor.{on_bit, odd_lt}
use Rattle.hdmi.specs.Parity.{step, register, bits_of, sent, parity, with_parity, right}
use Rattle.hdmi.proofs.Parity.{parity_linear, parity_zeros_first, register_append}
use Rattle.parity.specs.Word.{shl}

-- the lowest of n + 1 bytes apart
higher : (n q : ℕ) → 256 ^ suc n * q ≡ 256 * (256 ^ n * q)
higher n q = ap (λ (m : ℕ). m * q) (pow-suc 256 n ∙ mul_comm (256 ^ n) 256) ∙ mul_assoc 256 (256 ^ n) q

module _ (n d q : ℕ) where
  low_same : (d + 256 ^ suc n * q) % 256 ≡ d % 256
  low_same = omega (arith, higher n q)

  rest_same : (d + 256 ^ suc n * q) / 256 ≡ d / 256 + 256 ^ n * q
  rest_same = omega (arith, higher n q)

-- what lies above n bytes plays no part in them
bytes_below : (n d q : ℕ) → low_first n (d + 256 ^ n * q) ≡ low_first n d
bytes_below zero d q = refl
bytes_below (suc n) d q =
    ap₂ (λ (x : ℕ) (l : List ℕ). x ∷ l) (low_same n d q) (ap (low_first n) (rest_same n d q) ∙ bytes_below n (d / 256) q)

-- and a byte there comes last
pub byte_above : (n d p : ℕ) → d < 256 ^ n → p < 256 → low_first (suc n) (d + 256 ^ n * p) ≡ low_first n d ++ (p ∷ [])
byte_above zero d p hd hp = ap (λ (x : ℕ). x ∷ []) (omega arith)
byte_above (suc n) d p hd hp =
    ap₂ (λ (x : ℕ) (l : List ℕ). x ∷ l) (low_same n d p)
    (ap (low_first (suc n)) (rest_same n d p) ∙ byte_above n (d / 256) p (omega (arith, pow-suc 256 n)) hp)

-- the word without what lies above them has the same bytes
pub bytes_within : (n w : ℕ) → low_first n (w % 256 ^ n) ≡ low_first n w
bytes_within n w = sym (bytes_below n (w % 256 ^ n) (w / 256 ^ n)) ∙ ap (low_first n) (mod-add-div w (256 ^ n))

-- z zero bytes below come first
zeros_below : (z n d : ℕ) → low_first (z + n) (256 ^ z * d) ≡ replicate z 0 ++ low_first n d
zeros_below zero n d = ap₂ low_first (zero-add n) (one-mul d)
zeros_below (suc z) n d =
    let low : 256 ^ suc z * d % 256 ≡ 0 = omega (arith, higher z d) in
    let rest : 256 ^ suc z * d / 256 ≡ 256 ^ z * d = omega (arith, higher z d) in
    ap (λ (m : ℕ). low_first m (256 ^ suc z * d)) (suc-add z n)
    ∙ ap₂ (λ (x : ℕ) (l : List ℕ). x ∷ l) low (ap (low_first (z + n)) rest ∙ zeros_below z n d)

-- so n bytes of a word, moved up with zeros below them and nothing else, keep their parity
pub parity_moved : (z n w : ℕ) → parity (low_first (z + n) (256 ^ z * (w % 256 ^ n))) ≡ parity (low_first n w)
parity_moved z n w = ap parity (zeros_below z n (w % 256 ^ n) ∙ ap (λ (l : List ℕ). replicate z 0 ++ l) (bytes_within n w)) ∙ parity_zeros_first z (low_first n w)

-- ---- a word and the byte on top of it

below_top : (n w : ℕ) → take n (low_first (suc n) w) ≡ low_first n w
below_top zero w = refl
below_top (suc n) w = ap (λ (l : List ℕ). w % 256 ∷ l) (below_top n (w / 256))

top_byte : (n w : ℕ) → w < 256 ^ suc n → get_or (low_first (suc n) w) n 0 ≡ w / 256 ^ n
top_byte zero w h = omega arith
top_byte (suc n) w h =
    top_byte n (w / 256) (omega (arith, pow-suc 256 (suc n))) ∙ div-div-eq-div-mul w 256 (256 ^ n)
    ∙ ap (λ (m : ℕ). w / m) (mul_comm 256 (256 ^ n) ∙ sym (pow-suc 256 n))

-- a word of n + 1 bytes is right where the top byte is the parity of those below it
pub top_right : (n w p : ℕ) → w < 256 ^ suc n → p ≡ parity (low_first n w) → eqb p (w / 256 ^ n) ≡ right n (low_first (suc n) w)
top_right n w p h e = ap₂ eqb (e ∙ ap parity (sym (below_top n w))) (sym (top_byte n w h))

-- ---- the parity is a byte

step_lt : (v b : ℕ) → v < 256 → b < 2 → step v b < 256
step_lt v b hv hb =
    xor_lt 8 (v / 2) (bit_xor (v % 2) b * 0x83) (omega arith)
    (on_bit (λ (x : ℕ). x * 0x83 < 256) (omega arith) (omega arith) (bit_xor (v % 2) b) (xor_lt 1 (v % 2) b (odd_lt v) hb))

bits_lt : (n v x : ℕ) → v < 256 → register v (bits_of n x) < 256
bits_lt zero v x h = h
bits_lt (suc n) v x h = bits_lt n (step v (x % 2)) (x / 2) (step_lt v (x % 2) h (odd_lt x))

sent_lt : (v : ℕ) (xs : List ℕ) → v < 256 → register v (sent xs) < 256
unfolding sent
sent_lt v [] h = h
sent_lt v (x ∷ xs) h =
    subst (λ (r : ℕ). r < 256) (sym (register_append v (bits_of 8 x) (sent xs))) (sent_lt (register v (bits_of 8 x)) xs (bits_lt 8 v x h))

pub parity_lt : (xs : List ℕ) → parity xs < 256
unfolding parity
parity_lt xs = sent_lt 0 xs (omega arith)

-- ---- seven bytes, and their parity above them

unfoldable pub sealing : ℕ → ℕ
sealing d = bit_xor d (shl 56 (parity (low_first 7 d)))

pub sealing_linear : Linear sealing
unfolding sealing
sealing_linear =
    linear_sum (λ d. d) (λ d. shl 56 (parity (low_first 7 d))) (λ a b. refl)
    (linear_after (λ d. parity (low_first 7 d)) (shl 56) (parity_linear 7) (linear_shl 64 56))

pub sealing_bytes : (d : ℕ) → d < 2 ^ 56 → low_first 8 (sealing d) ≡ with_parity (low_first 7 d)
unfolding sealing with_parity
sealing_bytes d h =
    let p : ℕ = parity (low_first 7 d) in
    let hp : p < 256 = parity_lt (low_first 7 d) in
    let small : shl 56 p ≡ p * 2 ^ 56 = omega arith in
    let whole : sealing d ≡ d + 256 ^ 7 * p =
    ap (bit_xor d) small ∙ xor_comm d (p * 2 ^ 56) ∙ xor_shifted p 56 d h ∙ omega arith in
    ap (low_first 8) whole ∙ byte_above 7 d p h hp
