-- The four subpackets side by side: two merges, of pairs and then of fours of bits, bring the bit pairs of a character together in a byte.
use mathlib.Core.Path.{◌≡◌, ap, ap₂, ◌∙◌}
use mathlib.Core.List.{List, [], ◌∷◌}
use Prim.Native.Nat.{ℕ, zero, suc, ◌+◌, ◌-◌, ◌*◌, ◌/◌, ◌%◌, ◌^◌, ◌<◌, min, max}
use native.Mathlib.Omega.{arith}
use lib.Bits.{bit_and}
use lib.ListN.{get_or}
use Rattle.laws.specs.Bit.{bit}
use Rattle.laws.proofs.Bits.{bit_lt, bit-and, bit-or, bit_mod, bit_shr, bit-shl}
use Rattle.laws.proofs.Finite.{agreed}
use Rattle.hdmi.specs.Island.{header_bit, subpacket_bit}
use Rattle.island.specs.Words.{Subpacket, Pairs, Rows, Header, merged}

-- ---- one merge

merged-bit : (x y k low high n : ℕ) → bit n (merged x y k low high) ≡ max (min (bit n x) (bit n low)) (min (bit n (y * 2 ^ k % 2 ^ 64)) (bit n high))
unfolding merged
merged-bit x y k low high n =
    bit-or n (bit_and x low) (bit_and (y * 2 ^ k % 2 ^ 64) high) ∙ ap₂ max (bit-and n x low) (bit-and n (y * 2 ^ k % 2 ^ 64) high)

low_bit : (x y k low high n : ℕ) → bit n low ≡ 1 → bit n high ≡ 0 → bit n (merged x y k low high) ≡ bit n x
low_bit x y k low high n l h =
    let e = merged-bit x y k low high n in
    omega (arith, e, l, h, bit_lt n x, bit_lt n (y * 2 ^ k % 2 ^ 64))

high_bit : (x y k low high n : ℕ) → k + n < 64 → bit (k + n) low ≡ 0 → bit (k + n) high ≡ 1 → bit (k + n) (merged x y k low high) ≡ bit n y
high_bit x y k low high n w l h =
    let e = merged-bit x y k low high (k + n) in
    let s : bit (k + n) (y * 2 ^ k % 2 ^ 64) ≡ bit n y = bit_mod (k + n) 64 (y * 2 ^ k) w ∙ bit-shl n k y in
    omega (arith, e, s, l, h, bit_lt n y, bit_lt (k + n) x)

-- the masks, bit by bit
low_pairs : (n : ℕ) → n < 64 → bit n 0x3333333333333333 ≡ 1 - n / 2 % 2
unfolding bit
low_pairs = agreed (λ n. bit n 0x3333333333333333) (λ n. 1 - n / 2 % 2) 64 tt

high_pairs : (n : ℕ) → n < 64 → bit n 0xcccccccccccccccc ≡ n / 2 % 2
unfolding bit
high_pairs = agreed (λ n. bit n 0xcccccccccccccccc) (λ n. n / 2 % 2) 64 tt

low_fours : (n : ℕ) → n < 64 → bit n 0x0f0f0f0f0f0f0f0f ≡ 1 - n / 4 % 2
unfolding bit
low_fours = agreed (λ n. bit n 0x0f0f0f0f0f0f0f0f) (λ n. 1 - n / 4 % 2) 64 tt

high_fours : (n : ℕ) → n < 64 → bit n 0xf0f0f0f0f0f0f0f0 ≡ n / 4 % 2
unfolding bit
high_fours = agreed (λ n. bit n 0xf0f0f0f0f0f0f0f0) (λ n. n / 4 % 2) 64 tt

abbrev pub twos : ℕ → ℕ → ℕ
twos x y = merged x y 2 0x3333333333333333 0xcccccccccccccccc

abbrev pub fours : ℕ → ℕ → ℕ
fours x y = merged x y 4 0x0f0f0f0f0f0f0f0f 0xf0f0f0f0f0f0f0f0

twos_low : (x y n : ℕ) → n < 64 → n / 2 % 2 ≡ 0 → bit n (twos x y) ≡ bit n x
twos_low x y n w e = low_bit x y 2 _ _ n (omega (arith, low_pairs n w)) (omega (arith, high_pairs n w))

twos_high : (x y n : ℕ) → 2 + n < 64 → n / 2 % 2 ≡ 0 → bit (2 + n) (twos x y) ≡ bit n y
twos_high x y n w e =
    let f : (2 + n) / 2 % 2 ≡ 1 = omega arith in
    high_bit x y 2 _ _ n w (omega (arith, low_pairs (2 + n) w)) (omega (arith, high_pairs (2 + n) w))

fours_low : (x y n : ℕ) → n < 64 → n / 4 % 2 ≡ 0 → bit n (fours x y) ≡ bit n x
fours_low x y n w e = low_bit x y 4 _ _ n (omega (arith, low_fours n w)) (omega (arith, high_fours n w))

fours_high : (x y n : ℕ) → 4 + n < 64 → n / 4 % 2 ≡ 0 → bit (4 + n) (fours x y) ≡ bit n y
fours_high x y n w e =
    let f : (4 + n) / 4 % 2 ≡ 1 = omega arith in
    high_bit x y 4 _ _ n w (omega (arith, low_fours (4 + n) w)) (omega (arith, high_fours (4 + n) w))

-- ---- four words side by side

module _ (j : ℕ) where
  abbrev by : ℕ
  by = 2 * (j % 2)

  abbrev on : ℕ
  on = 4 * (j / 2 % 2)

  module _ (i o : ℕ) (hi : i < 8) (ho : o < 2) where
    -- the lower of the two places in a merge of pairs, and the higher
    lower : (x y : ℕ) → bit (on + (8 * i + o)) (twos (x / 2 ^ by) (y / 2 ^ by)) ≡ bit (8 * i + (2 * (j % 4) + o)) x
    lower x y =
        twos_low (x / 2 ^ by) (y / 2 ^ by) (on + (8 * i + o)) (omega arith) (omega arith) ∙ bit_shr (on + (8 * i + o)) by x
        ∙ ap (λ (m : ℕ). bit m x) (omega arith)

    higher : (x y : ℕ) → bit (on + (8 * i + (2 + o))) (twos (x / 2 ^ by) (y / 2 ^ by)) ≡ bit (8 * i + (2 * (j % 4) + o)) y
    higher x y =
        ap (λ (m : ℕ). bit m (twos (x / 2 ^ by) (y / 2 ^ by))) (omega arith)
        ∙ twos_high (x / 2 ^ by) (y / 2 ^ by) (on + (8 * i + o)) (omega arith) (omega arith) ∙ bit_shr (on + (8 * i + o)) by y
        ∙ ap (λ (m : ℕ). bit m y) (omega arith)

  module _ (ws : List ℕ) where
    abbrev word : ℕ → ℕ
    word s = get_or ws s 0

    abbrev one : ℕ
    one = twos (word 0 / 2 ^ by) (word 1 / 2 ^ by)

    abbrev two : ℕ
    two = twos (word 2 / 2 ^ by) (word 3 / 2 ^ by)

    pub side_by_side : (i s o : ℕ) → i < 8 → s < 4 → o < 2
        → bit (8 * i + (2 * s + o)) (fours (one / 2 ^ on) (two / 2 ^ on)) ≡ bit (8 * i + (2 * (j % 4) + o)) (word s)
    side_by_side i zero o hi hs ho =
        ap (λ (m : ℕ). bit m (fours (one / 2 ^ on) (two / 2 ^ on))) (omega arith)
        ∙ fours_low (one / 2 ^ on) (two / 2 ^ on) (8 * i + o) (omega arith) (omega arith) ∙ bit_shr (8 * i + o) on one ∙ lower i o hi ho (word 0) (word 1)
    side_by_side i (suc zero) o hi hs ho =
        ap (λ (m : ℕ). bit m (fours (one / 2 ^ on) (two / 2 ^ on))) (omega arith)
        ∙ fours_low (one / 2 ^ on) (two / 2 ^ on) (8 * i + (2 + o)) (omega arith) (omega arith) ∙ bit_shr (8 * i + (2 + o)) on one ∙ higher i o hi ho (word 0) (word 1)
    side_by_side i (suc (suc zero)) o hi hs ho =
        ap (λ (m : ℕ). bit m (fours (one / 2 ^ on) (two / 2 ^ on))) (omega arith)
        ∙ fours_high (one / 2 ^ on) (two / 2 ^ on) (8 * i + o) (omega arith) (omega arith) ∙ bit_shr (8 * i + o) on two ∙ lower i o hi ho (word 2) (word 3)
    side_by_side i (suc (suc (suc zero))) o hi hs ho =
        ap (λ (m : ℕ). bit m (fours (one / 2 ^ on) (two / 2 ^ on))) (omega arith)
        ∙ fours_high (one / 2 ^ on) (two / 2 ^ on) (8 * i + (2 + o)) (omega arith) (omega arith) ∙ bit_shr (8 * i + (2 + o)) on two ∙ higher i o hi ho (word 2) (word 3)
    side_by_side i (suc (suc (suc (suc s)))) o hi hs ho = absurd (omega arith)

-- the subpackets of a packet
pub subpackets_side_by_side : (p : List ℕ) (j r x0 x1 x2 x3 : ℕ) → j < 4 → Subpacket p 0 x0 → Subpacket p 1 x1 → Subpacket p 2 x2 → Subpacket p 3 x3
    → ((i s o : ℕ) → i < 8 → s < 4 → o < 2 → bit (8 * i + (2 * s + o)) r ≡ bit (8 * i + (2 * (j % 4) + o)) (get_or (x0 ∷ x1 ∷ x2 ∷ x3 ∷ []) s 0))
    → Pairs p 0 j r
unfolding Subpacket Pairs
subpackets_side_by_side p j r x0 x1 x2 x3 hj s0 s1 s2 s3 bits i s o hi hs ho = bits i s o (omega arith) hs ho ∙ of s hs
  where
    n : ℕ
    n = 8 * i + (2 * (j % 4) + o)

    place : n ≡ 2 * (4 * (0 + i) + j) + o
    place = omega arith

    of : (s : ℕ) → s < 4 → bit n (get_or (x0 ∷ x1 ∷ x2 ∷ x3 ∷ []) s 0) ≡ subpacket_bit p s (2 * (4 * (0 + i) + j) + o)
    of zero h = s0 n (omega arith) ∙ ap (subpacket_bit p 0) place
    of (suc zero) h = s1 n (omega arith) ∙ ap (subpacket_bit p 1) place
    of (suc (suc zero)) h = s2 n (omega arith) ∙ ap (subpacket_bit p 2) place
    of (suc (suc (suc zero))) h = s3 n (omega arith) ∙ ap (subpacket_bit p 3) place
    of (suc (suc (suc (suc s)))) h = absurd (omega arith)

-- ---- four characters on

pub header_on : (p : List ℕ) (i h : ℕ) → Header p i h → Header p (i + 1) (h / 2 ^ 4)
unfolding Header
header_on p i h bits k l =
    bit_shr k 4 h ∙ bits (4 + k) (omega arith) ∙ ap (header_bit p) (omega arith)

pub pairs_on : (p : List ℕ) (i j v : ℕ) → Pairs p i j v → Pairs p (i + 1) j (v / 2 ^ 8)
unfolding Pairs
pairs_on p i j v pairs r s o hr hs ho =
    bit_shr (8 * r + (2 * s + o)) 8 v ∙ ap (λ (m : ℕ). bit m v) (omega arith) ∙ pairs (r + 1) s o (omega arith) hs ho
    ∙ ap (subpacket_bit p s) (omega arith)

pub four_rows : (p : List ℕ) (i a b c d : ℕ) → Pairs p i 0 a → Pairs p i 1 b → Pairs p i 2 c → Pairs p i 3 d → Rows p i (a ∷ b ∷ c ∷ d ∷ [])
unfolding Rows
four_rows p i a b c d ha hb hc hd zero h = ha
four_rows p i a b c d ha hb hc hd (suc zero) h = hb
four_rows p i a b c d ha hb hc hd (suc (suc zero)) h = hc
four_rows p i a b c d ha hb hc hd (suc (suc (suc zero))) h = hd
four_rows p i a b c d ha hb hc hd (suc (suc (suc (suc j)))) h = absurd (omega arith)

pub rows_on : (p : List ℕ) (i : ℕ) (rows : List ℕ) → Rows p i rows
    → Rows p (i + 1) ((get_or rows 0 0 / 2 ^ 8) ∷ (get_or rows 1 0 / 2 ^ 8) ∷ (get_or rows 2 0 / 2 ^ 8) ∷ (get_or rows 3 0 / 2 ^ 8) ∷ [])
unfolding Rows
rows_on p i rows r =
    four_rows p (i + 1) _ _ _ _ (pairs_on p i 0 _ (r 0 (omega arith))) (pairs_on p i 1 _ (r 1 (omega arith))) (pairs_on p i 2 _ (r 2 (omega arith)))
    (pairs_on p i 3 _ (r 3 (omega arith)))
