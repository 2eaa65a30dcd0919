-- The island's words by their index, and what one word tells of its bits.
use mathlib.Core.Path.{◌≡◌, refl, sym, ap, subst, ◌∙◌}
use mathlib.Core.List.{List}
use Prim.Native.Nat.{ℕ, zero, suc, ◌+◌, ◌-◌, ◌*◌, ◌/◌, ◌%◌, ◌^◌, ◌≤◌, ◌<◌}
use native.Mathlib.Decide.{dec_lt}
use native.Mathlib.Nat.{add-zero}
use native.Mathlib.Omega.{arith}
use borrow.Author.Tests.{lt-ltb, le-ltb, le-leb, lt-leb}
use lib.ListN.{length, get_or}
use Rattle.laws.specs.Bit.{bit}
use Rattle.laws.proofs.Bits.{bit_lt}
use Rattle.laws.proofs.Digits.{bits_bit, bits_lt}
use Rattle.laws.proofs.Tables.{made_at}
use Rattle.dvi.specs.Lanes.{lane}
use Rattle.hdmi.specs.Terc4.{terc4, terc4_number}
use Rattle.hdmi.specs.Island.{guard_word, header_bit, subpacket_bit, marker, lane_zero, across, data_word, island_word, island}
use Rattle.hdmi.proofs.Terc4.{terc4_lt, number_terc4, terc4_injective}
use Rattle.hdmi.proofs.Lanes.{lane_0, lane_1, lane_2, lanes_lt}

-- ---- the words by their index

pub length-island : (hv : ℕ) (p : List ℕ) → length (island hv p) ≡ 36
unfolding island
length-island hv p = refl

pub island_at : (hv : ℕ) (p : List ℕ) (i : ℕ) → i < 36 → get_or (island hv p) i 0 ≡ island_word hv p i
unfolding island
island_at hv p = made_at (island_word hv p) 36

-- words 0, 1, 34 and 35
pub guard_low : (hv : ℕ) (p : List ℕ) (i : ℕ) → i < 2 → island_word hv p i ≡ guard_word hv
unfolding island_word
guard_low hv p i h = simp (lt-leb 2 i h)

pub guard_high : (hv : ℕ) (p : List ℕ) (i : ℕ) → 34 ≤ i → island_word hv p i ≡ guard_word hv
unfolding island_word
guard_high hv p i h = simp (le-leb 2 i (omega arith), le-ltb i 34 h)

-- words 2 to 33
pub data_at : (hv : ℕ) (p : List ℕ) (k : ℕ) → k < 32 → island_word hv p (2 + k) ≡ data_word hv p k
unfolding island_word
data_at hv p k h =
    let d : 2 + k - 2 ≡ k = omega arith in
    simp (le-leb 2 (2 + k) (omega arith), lt-ltb (2 + k) 34 (omega arith), d)

-- what holds of the guard words and of the words of data holds of every word
pub every_word : (hv : ℕ) (p : List ℕ) (P : ℕ → ℕ → Type 0) → ((i : ℕ) → i < 2 → P i (guard_word hv)) → ((i : ℕ) → 34 ≤ i → P i (guard_word hv))
    → ((k : ℕ) → k < 32 → P (2 + k) (data_word hv p k)) → (i : ℕ) → P i (island_word hv p i)
every_word hv p P low high between i = at i (dec_lt i 2) (dec_lt i 34)
  where
    at : (i : ℕ) → Dec (i < 2) → Dec (i < 34) → P i (island_word hv p i)
    at i (yes a) b = subst (P i) (sym (guard_low hv p i a)) (low i a)
    at i (no a) (no b) = subst (P i) (sym (guard_high hv p i (omega (arith, b)))) (high i (omega (arith, b)))
    at i (no a) (yes b) =
        let e : 2 + (i - 2) ≡ i = omega (arith, a) in
        subst (λ (j : ℕ). P j (island_word hv p j)) e
        (subst (P (2 + (i - 2))) (sym (data_at hv p (i - 2) (omega arith))) (between (i - 2) (omega arith)))

-- ---- the numbers on the lanes

pub header_lt : (p : List ℕ) (k : ℕ) → header_bit p k < 2
unfolding header_bit
header_lt p k = bit_lt (k % 8) (get_or p (k / 8) 0)

pub subpacket_lt : (p : List ℕ) (s n : ℕ) → subpacket_bit p s n < 2
unfolding subpacket_bit
subpacket_lt p s n = bit_lt (n % 8) (get_or p (4 + 8 * s + n / 8) 0)

pub marker_is : (k : ℕ) → (marker k / 8 * 8 ≡ marker k) × (marker k ≤ 8)
marker_is zero = (refl, omega arith)
marker_is (suc k) = (refl, omega arith)

pub marker_later : (k : ℕ) → (k ≡ 0 → ⊥) → marker k ≡ 8
marker_later zero h = absurd (h refl)
marker_later (suc k) h = refl

pub zero_lt : (hv : ℕ) (p : List ℕ) (k : ℕ) → hv < 4 → lane_zero hv p k < 16
zero_lt hv p k h = omega (arith, header_lt p k, marker_is k)

pub across_lt : (p : List ℕ) (n : ℕ) → across p n < 16
across_lt p n = bits_lt (λ s. subpacket_bit p s n) (λ s. subpacket_lt p s n) 4

pub across-bit : (p : List ℕ) (n s : ℕ) → s < 4 → bit s (across p n) ≡ subpacket_bit p s n
across-bit p n = bits_bit (λ s. subpacket_bit p s n) (λ s. subpacket_lt p s n) 4

-- ---- what one word tells

pub guard_lt : (hv : ℕ) → hv < 4 → guard_word hv < 2 ^ 30
unfolding guard_word
guard_lt hv h = lanes_lt (terc4 (12 + hv)) 0x133 0x133 (terc4_lt (12 + hv) (omega arith)) (omega arith) (omega arith)

pub guard_once : (hv hw : ℕ) → hv < 4 → hw < 4 → guard_word hv ≡ guard_word hw → hv ≡ hw
unfolding guard_word
guard_once hv hw h l e =
    let t : terc4 (12 + hv) ≡ terc4 (12 + hw) = omega arith in
    let n = terc4_injective (12 + hv) (12 + hw) (omega arith) (omega arith) t in
    omega arith

module _ (hv : ℕ) (p : List ℕ) (k : ℕ) (pair : hv < 4) where
  a_lt : terc4 (lane_zero hv p k) < 1024
  a_lt = terc4_lt (lane_zero hv p k) (zero_lt hv p k pair)

  b_lt : (n : ℕ) → terc4 (across p n) < 1024
  b_lt n = terc4_lt (across p n) (across_lt p n)

  pub data_lt : data_word hv p k < 2 ^ 30
  unfolding data_word
  data_lt = lanes_lt (terc4 (lane_zero hv p k)) (terc4 (across p (2 * k))) (terc4 (across p (2 * k + 1))) a_lt (b_lt (2 * k)) (b_lt (2 * k + 1))

  -- the number on each lane
  pub on_lane_0 : terc4_number (lane 0 (data_word hv p k)) ≡ lane_zero hv p k
  unfolding data_word
  on_lane_0 =
      ap terc4_number (lane_0 (terc4 (lane_zero hv p k)) (terc4 (across p (2 * k))) (terc4 (across p (2 * k + 1))) a_lt (b_lt (2 * k)) (b_lt (2 * k + 1)))
      ∙ number_terc4 (lane_zero hv p k) (zero_lt hv p k pair)

  pub on_lane_1 : terc4_number (lane 1 (data_word hv p k)) ≡ across p (2 * k)
  unfolding data_word
  on_lane_1 =
      ap terc4_number (lane_1 (terc4 (lane_zero hv p k)) (terc4 (across p (2 * k))) (terc4 (across p (2 * k + 1))) a_lt (b_lt (2 * k)) (b_lt (2 * k + 1)))
      ∙ number_terc4 (across p (2 * k)) (across_lt p (2 * k))

  pub on_lane_2 : terc4_number (lane 2 (data_word hv p k)) ≡ across p (2 * k + 1)
  unfolding data_word
  on_lane_2 =
      ap terc4_number (lane_2 (terc4 (lane_zero hv p k)) (terc4 (across p (2 * k))) (terc4 (across p (2 * k + 1))) a_lt (b_lt (2 * k)) (b_lt (2 * k + 1)))
      ∙ number_terc4 (across p (2 * k + 1)) (across_lt p (2 * k + 1))

  -- the sync pair, the header's bit and the marker
  pub tells_pair : terc4_number (lane 0 (data_word hv p k)) % 4 ≡ hv
  tells_pair = omega (arith, on_lane_0, header_lt p k, marker_is k)

  pub tells_header : bit 2 (terc4_number (lane 0 (data_word hv p k))) ≡ header_bit p k
  unfolding bit
  tells_header = omega (arith, on_lane_0, header_lt p k, marker_is k)

  pub tells_marker : terc4_number (lane 0 (data_word hv p k)) / 8 * 8 ≡ marker k
  tells_marker = omega (arith, on_lane_0, header_lt p k, marker_is k)

  -- and the subpackets' bits: of lane 1 + o, bit s is bit 2 k + o of subpacket s
  pub tells_subpacket : (s o : ℕ) → s < 4 → o < 2 → bit s (terc4_number (lane (1 + o) (data_word hv p k))) ≡ subpacket_bit p s (2 * k + o)
  tells_subpacket s zero hs ho = ap (bit s) on_lane_1 ∙ across-bit p (2 * k) s hs ∙ ap (subpacket_bit p s) (sym (add-zero (2 * k)))
  tells_subpacket s (suc zero) hs ho = ap (bit s) on_lane_2 ∙ across-bit p (2 * k + 1) s hs
  tells_subpacket s (suc (suc o)) hs ho = absurd (omega arith)
