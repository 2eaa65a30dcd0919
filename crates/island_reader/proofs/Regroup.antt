-- From the numbers of the lanes back to the subpackets' bytes: a shuffle of nibbles, and the transposition that the writer uses.
use mathlib.Core.Path.{◌≡◌, sym, ap, ap₂, ◌∙◌}
use mathlib.Core.Bool.{◌&&◌}
use mathlib.Core.List.{List, [], ◌∷◌}
use Prim.Native.Nat.{ℕ, ◌+◌, ◌-◌, ◌*◌, ◌/◌, ◌%◌, ◌^◌, ◌≤◌, ◌<◌}
use native.Mathlib.Nat.{zero-add}
use native.Mathlib.Omega.{arith}
use Rattle.std.proofs.Math.Pow.{pow_mono}
use lib.Dec.{T, eqb, eqb→eq}
use lib.ListN.{get_or}
use Rattle.laws.specs.Bit.{bit}
use Rattle.laws.specs.Digits.{numeral}
use Rattle.laws.proofs.Bits.{bit_lt, bit_mod, bit_shr, bit_ext}
use Rattle.laws.proofs.Digits.{numeral-bit, numeral_lt, bits_bit, bits_lt}
use Rattle.laws.proofs.Finite.{below}
use Rattle.laws.proofs.Swaps.{Swap, swap, swaps, sources, orderly, swaps_bit}
use Rattle.laws.proofs.Truth.{and_left, and_right}
use Rattle.island.specs.Words.{transposed}
use Rattle.island.proofs.Characters.{transposed_pair}
use Rattle.island_reader.specs.Numbers.{header_in, subpacket_in, subpacket_byte_in, group_in, shuffled}

-- ---- the shuffle

abbrev pub steps : List Swap
steps = swap 0x0c0c0c0c 2 ∷ swap 0x22222222 1 ∷ []

in_order : (k : ℕ) → k < 32 → T (orderly 32 steps k && eqb (sources steps k) (shuffled k))
unfolding bit
in_order = below (λ k. orderly 32 steps k && eqb (sources steps k) (shuffled k)) 32 tt

pub shuffled-bit : (v k : ℕ) → k < 32 → bit k (swaps 32 steps v) ≡ bit (shuffled k) v
shuffled-bit v k h =
    let t = in_order k h in
    swaps_bit 32 steps v k h (and_left (orderly 32 steps k) (eqb (sources steps k) (shuffled k)) t)
    ∙ ap (λ (j : ℕ). bit j v)
    (eqb→eq (sources steps k) (shuffled k) (and_right (orderly 32 steps k) (eqb (sources steps k) (shuffled k)) t))

-- pair s of byte j comes from bit s of both its nibbles
shuffled_pair : (j s o : ℕ) → s < 4 → o < 2 → shuffled (8 * j + (2 * s + o)) ≡ 8 * j + (4 * o + s)
shuffled_pair j s o hs ho =
    let k : ℕ = 8 * j + (2 * s + o) in
    let a : k / 8 ≡ j = omega arith in
    let b : k % 2 ≡ o = omega arith in
    let c : k % 8 ≡ 2 * s + o = omega arith in
    let d : (2 * s + o) / 2 ≡ s = omega arith in
    omega (arith, ap (λ (x : ℕ). x / 2) c)

-- ---- bytes

pub header_in_lt : (ns : List ℕ) (k : ℕ) → header_in ns k < 2
unfolding header_in
header_in_lt ns k = bit_lt 2 (get_or ns k 0)

-- some of a header's byte
pub header_part_lt : (ns : List ℕ) (i n : ℕ) → numeral 1 (λ n. header_in ns (8 * i + n)) n (8 - n) < 256
header_part_lt ns i n =
    let most : (8 - n) * 1 ≤ 8 = omega arith in
    omega (arith, numeral_lt 1 (λ n. header_in ns (8 * i + n)) (λ n. header_in_lt ns (8 * i + n)) n (8 - n), pow_mono most)

pub subpacket_in_lt : (ns : List ℕ) (s n : ℕ) → subpacket_in ns s n < 2
unfolding subpacket_in
subpacket_in_lt ns s n = bit_lt (4 + 4 * (n % 2) + s) (get_or ns (n / 2) 0)

pub byte_lt : (ns : List ℕ) (s i : ℕ) → subpacket_byte_in ns s i < 256
unfolding subpacket_byte_in
byte_lt ns s i = bits_lt (λ n. subpacket_in ns s (8 * i + n)) (λ n. subpacket_in_lt ns s (8 * i + n)) 8

byte_bit : (ns : List ℕ) (s i n : ℕ) → n < 8 → bit n (subpacket_byte_in ns s i) ≡ subpacket_in ns s (8 * i + n)
unfolding subpacket_byte_in
byte_bit ns s i = bits_bit (λ n. subpacket_in ns s (8 * i + n)) (λ n. subpacket_in_lt ns s (8 * i + n)) 8

-- ---- byte i of the four subpackets

group_lt : (ns : List ℕ) (i : ℕ) → group_in ns i < 2 ^ 32
unfolding group_in
group_lt ns i = numeral_lt 8 (λ s. subpacket_byte_in ns s i) (λ s. byte_lt ns s i) 0 4

group_bit : (ns : List ℕ) (i s n : ℕ) → s < 4 → n < 8 → bit (8 * s + n) (group_in ns i) ≡ subpacket_in ns s (8 * i + n)
unfolding group_in
group_bit ns i s n hs hn =
    numeral-bit 8 (λ s. subpacket_byte_in ns s i) (λ s. byte_lt ns s i) 0 4 s n hs hn
    ∙ ap (λ (u : ℕ). bit n (subpacket_byte_in ns u i)) (zero-add s) ∙ byte_bit ns s i n hn

module _ (ns : List ℕ) (i v h r : ℕ) where
  -- lanes 1 and 2 of word 4 i + j
  abbrev nibbles : ℕ → ℕ
  nibbles j = get_or ns (4 * i + j) 0 / 16 % 256

  module _ (join : v ≡ nibbles 0 + nibbles 1 * 256 + nibbles 2 * 65536 + nibbles 3 * 16777216) (shuffle : (k : ℕ) → k < 32 → bit k h ≡ bit (shuffled k) v) (transpose : (k : ℕ) → k < 32 → bit k r ≡ bit (transposed k) h) where
    regrouped : (s j o : ℕ) → s < 4 → j < 4 → o < 2 → bit (8 * s + (2 * j + o)) r ≡ subpacket_in ns s (8 * i + (2 * j + o))
    unfolding subpacket_in
    regrouped s j o hs hj ho =
        let whole : v ≡ numeral 8 nibbles 0 4 = omega arith in
        let bytes : bit (8 * j + (4 * o + s)) v ≡ bit (4 * o + s) (nibbles j) =
        ap (bit (8 * j + (4 * o + s))) whole ∙ numeral-bit 8 nibbles (λ j. omega arith) 0 4 j (4 * o + s) hj (omega arith)
        ∙ ap (λ (m : ℕ). bit (4 * o + s) (nibbles m)) (zero-add j) in
        let x : ℕ = get_or ns (4 * i + j) 0 in
        let n : ℕ = 8 * i + (2 * j + o) in
        let a : n % 2 ≡ o = omega arith in
        let b : n / 2 ≡ 4 * i + j = omega arith in
        let c : 4 + (4 * o + s) ≡ 4 + 4 * o + s = omega arith in
        transpose (8 * s + (2 * j + o)) (omega arith) ∙ ap (λ (k : ℕ). bit k h) (transposed_pair s j o hj ho)
        ∙ shuffle (8 * j + (2 * s + o)) (omega arith) ∙ ap (λ (k : ℕ). bit k v) (shuffled_pair j s o hs ho)
        ∙ bytes ∙ bit_mod (4 * o + s) 8 (x / 16) (omega arith) ∙ bit_shr (4 * o + s) 4 x
        ∙ ap (λ (k : ℕ). bit k x) c ∙ ap₂ (λ (u w : ℕ). bit (4 + 4 * u + s) (get_or ns w 0)) (sym a) (sym b)

    by_bit : (k : ℕ) → k < 32 → bit k r ≡ bit k (group_in ns i)
    by_bit k l =
        let s : ℕ = k / 8 in
        let n : ℕ = k % 8 in
        let j : ℕ = k % 8 / 2 in
        let o : ℕ = k % 2 in
        let e : k ≡ 8 * s + (2 * j + o) = omega arith in
        ap (λ (u : ℕ). bit u r) e ∙ regrouped s j o (omega arith) (omega arith) (omega arith)
        ∙ sym (group_bit ns i s (2 * j + o) (omega arith) (omega arith)) ∙ ap (λ (u : ℕ). bit u (group_in ns i)) (sym e)

    pub group-is : r < 2 ^ 32 → r ≡ group_in ns i
    group-is small = bit_ext 32 r (group_in ns i) small (group_lt ns i) by_bit

-- the four bytes of a group
pub group_bytes : (ns : List ℕ) (i : ℕ)
    → (group_in ns i % 256 ≡ subpacket_byte_in ns 0 i) × (group_in ns i / 2 ^ 8 % 256 ≡ subpacket_byte_in ns 1 i) × (group_in ns i / 2 ^ 16 % 256 ≡ subpacket_byte_in ns 2 i) × (group_in ns i / 2 ^ 24 ≡ subpacket_byte_in ns 3 i)
unfolding group_in
group_bytes ns i =
    let a = byte_lt ns 0 i in
    let b = byte_lt ns 1 i in
    let c = byte_lt ns 2 i in
    let d = byte_lt ns 3 i in
    (omega arith, omega arith, omega arith, omega arith)
