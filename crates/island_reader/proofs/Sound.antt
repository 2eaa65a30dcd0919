-- Words of which nothing is refused are the island of the sync pair and the packet found in them.
use mathlib.Core.Path.{◌≡◌, refl, sym, ap, ap₂, subst, ◌∙◌}
use mathlib.Core.Bool.{Bool, true, false, not, ◌&&◌}
use mathlib.Core.List.{List}
use Prim.Native.Nat.{ℕ, zero, suc, ◌+◌, ◌-◌, ◌*◌, ◌/◌, ◌%◌, ◌^◌, ◌≤◌, ◌<◌}
use native.Mathlib.Decide.{dec_lt}
use native.Mathlib.Omega.{arith}
use borrow.Author.Tests.{lt-ltb, le-ltb, eqb-true, not-false}
use lib.Dec.{eqb, ltb}
use lib.ListN.{length, get_or, get_or-eq_default}
use lib.Seq.{ext_get_or}
use Rattle.std.specs.Prelude.{Ok}
use Rattle.laws.specs.Bit.{bit}
use Rattle.laws.proofs.Bits.{bit_lt}
use Rattle.laws.proofs.Digits.{numeral_agree, bits_bit, bits_lt, of_bits}
use Rattle.laws.proofs.Truth.{true_T, T_true, and_left, and_right}
use Rattle.refusal.specs.declared.Refusal.TheVariants.{HighBits, SyncBits}
use Rattle.refusal.specs.Verdict.{verdict}
use Rattle.dvi.specs.Lanes.{lanes, lane}
use Rattle.hdmi.specs.Terc4.{terc4}
use Rattle.hdmi.specs.Island.{guard_word, header_bit, subpacket_bit, marker, lane_zero, across, data_word, island_word, island}
use Rattle.hdmi.proofs.Island.{length-island, island_at, data_at, guard_low, guard_high}
use Rattle.hdmi.proofs.Lanes.{of_lanes}
use Rattle.hdmi.proofs.Terc4.{terc4_number_lem}
use Rattle.island_reader.specs.Found.{pair_of, number_on, header_found, subpacket_found, header_byte, subpacket_byte, byte_found, packet_found}
use Rattle.island_reader.specs.Read.{high_bits, guard_place, sync_wrong, word_asks}
use Rattle.island_reader.proofs.Agree.{length_found, found_at}
use Rattle.island_reader.proofs.Chain.{words_passed, guard_right, lanes-right}
use Rattle.island_reader.proofs.Nibbles.{numbers_lt}
use Rattle.island_reader.proofs.Nowhere.{holds_means}

-- ---- the bits of the packet that is found

module _ (ws : List ℕ) where
  header_small : (k : ℕ) → header_found ws k < 2
  unfolding header_found
  header_small k = bit_lt 2 (number_on 0 (get_or ws (2 + k) 0))

  subpacket_small : (s n : ℕ) → subpacket_found ws s n < 2
  unfolding subpacket_found
  subpacket_small s n = bit_lt s (number_on (1 + n % 2) (get_or ws (2 + n / 2) 0))

  header_byte_lt : (i : ℕ) → header_byte ws i < 256
  unfolding header_byte
  header_byte_lt i = bits_lt (λ n. header_found ws (8 * i + n)) (λ n. header_small (8 * i + n)) 8

  subpacket_byte_lt : (s i : ℕ) → subpacket_byte ws s i < 256
  unfolding subpacket_byte
  subpacket_byte_lt s i = bits_lt (λ n. subpacket_found ws s (8 * i + n)) (λ n. subpacket_small s (8 * i + n)) 8

  byte_by : (t : Bool) (m : ℕ) → ltb m 4 ≡ t → byte_found ws m < 256
  byte_by true m e = simp e (header_byte_lt m)
  byte_by false m e = simp e (subpacket_byte_lt ((m - 4) / 8) ((m - 4) % 8))

  found_by : (m : ℕ) → Dec (m < 36) → get_or (packet_found ws) m 0 < 256
  found_by m (yes h) = rw (found_at ws m h) (byte_by (ltb m 4) m refl)
  found_by m (no h) = rw (get_or-eq_default (packet_found ws) 0 {n = m} (omega (arith, h, length_found ws))) (omega arith)

  -- 36 bytes
  pub found_lt : (m : ℕ) → get_or (packet_found ws) m 0 < 256
  found_lt m = found_by m (dec_lt m 36)

  pub header_is : (k : ℕ) → k < 32 → header_bit (packet_found ws) k ≡ header_found ws k
  unfolding header_bit header_byte
  header_is k h =
      let l : k / 8 < 4 = omega arith in
      let e : 8 * (k / 8) + k % 8 ≡ k = omega arith in
      ap (bit (k % 8)) (found_at ws (k / 8) (omega arith) ∙ simp (lt-ltb (k / 8) 4 l))
      ∙ bits_bit (λ n. header_found ws (8 * (k / 8) + n)) (λ n. header_small (8 * (k / 8) + n)) 8 (k % 8) (omega arith) ∙ ap (header_found ws) e

  pub subpacket_is : (s n : ℕ) → s < 4 → n < 64 → subpacket_bit (packet_found ws) s n ≡ subpacket_found ws s n
  unfolding subpacket_bit subpacket_byte
  subpacket_is s n hs h =
      let l : 4 ≤ 4 + 8 * s + n / 8 = omega arith in
      let a : (4 + 8 * s + n / 8 - 4) / 8 ≡ s = omega arith in
      let b : (4 + 8 * s + n / 8 - 4) % 8 ≡ n / 8 = omega arith in
      let e : 8 * (n / 8) + n % 8 ≡ n = omega arith in
      ap (bit (n % 8)) (found_at ws (4 + 8 * s + n / 8) (omega arith) ∙ simp (le-ltb (4 + 8 * s + n / 8) 4 l, a, b))
      ∙ bits_bit (λ m. subpacket_found ws s (8 * (n / 8) + m)) (λ m. subpacket_small s (8 * (n / 8) + m)) 8 (n % 8) (omega arith)
      ∙ ap (subpacket_found ws s) e

  -- what a lane sends is the number on it
  pub across_is : (n x : ℕ) → n < 64 → x ≡ number_on (1 + n % 2) (get_or ws (2 + n / 2) 0) → x < 16 → across (packet_found ws) n ≡ x
  unfolding subpacket_found
  across_is n x h e l =
      numeral_agree 1 (λ s. subpacket_bit (packet_found ws) s n) (λ s. bit s x) 0 4 (λ s a b. subpacket_is s n b h ∙ ap (bit s) (sym e))
      ∙ of_bits 4 x l

-- ---- the words

module _ (ws : List ℕ) (long : length ws ≡ 36) (fine : verdict (word_asks ws) ≡ Ok tt) where
  abbrev hv : ℕ
  hv = pair_of (get_or ws 0 0)

  abbrev packet : List ℕ
  packet = packet_found ws

  narrow : (i : ℕ) → i < 36 → get_or ws i 0 < 2 ^ 30
  narrow i h =
      let w : ℕ = get_or ws i 0 in
      let e : w / 2 ^ 30 ≡ 0 =
      eqb-true (w / 2 ^ 30) 0 (not-false (eqb (w / 2 ^ 30) 0) (holds_means (high_bits ws) 0 36 HighBits (words_passed ws fine).0 i (omega arith) h)) in
      omega arith

  guard : (j : ℕ) → j < 4 → get_or ws (guard_place j) 0 ≡ guard_word hv
  guard j h = (guard_right hv ws (words_passed ws fine).1 j h).1

  pub pair_lt : hv < 4
  pair_lt = (guard_right hv ws (words_passed ws fine).1 0 (omega arith)).0

  numbers : (k : ℕ) → k < 32 → (number_on 0 (get_or ws (2 + k) 0) < 16) × (number_on 1 (get_or ws (2 + k) 0) < 16) × (number_on 2 (get_or ws (2 + k) 0) < 16)
  numbers k h = numbers_lt (get_or ws (2 + k) 0) (lanes-right ws (words_passed ws fine).2 k h)

  also : (t a : Bool) → t ≡ true → (t && not a) ≡ false → a ≡ true
  also true a d e = not-false a e
  also false a d e = let z : ◌≡◌ {A = ℕ} 0 1 = cc in absurd (omega arith)

  synced : (k : ℕ) → k < 32 → (number_on 0 (get_or ws (2 + k) 0) % 4 ≡ hv) × (number_on 0 (get_or ws (2 + k) 0) / 8 * 8 ≡ marker k)
  synced k h =
      let x : ℕ = number_on 0 (get_or ws (2 + k) 0) in
      let m : ℕ = marker (2 + k - 2) in
      let place : 2 + k - 2 ≡ k = omega arith in
      let f = holds_means (sync_wrong hv ws) 2 32 SyncBits (words_passed ws fine).3 (2 + k) (omega arith) (omega arith) in
      let t = true_T (also (ltb hv 4) (eqb (x % 4) hv && eqb (x / 8 * 8) m) (lt-ltb hv 4 pair_lt) f) in (
        eqb-true (x % 4) hv (T_true (and_left (eqb (x % 4) hv) (eqb (x / 8 * 8) m) t)),
        eqb-true (x / 8 * 8) m (T_true (and_right (eqb (x % 4) hv) (eqb (x / 8 * 8) m) t)) ∙ ap marker place,
      )

  zero_is : (k : ℕ) → k < 32 → number_on 0 (get_or ws (2 + k) 0) ≡ lane_zero hv packet k
  unfolding header_found bit
  zero_is k h = omega (arith, synced k h, numbers k h, header_is ws k h)

  one_is : (k : ℕ) → k < 32 → across packet (2 * k) ≡ number_on 1 (get_or ws (2 + k) 0)
  one_is k h =
      let a : 2 * k % 2 ≡ 0 = omega arith in
      let b : 2 * k / 2 ≡ k = omega arith in
      across_is ws (2 * k) (number_on 1 (get_or ws (2 + k) 0)) (omega arith) (simp (a, b)) (numbers k h).1

  two_is : (k : ℕ) → k < 32 → across packet (2 * k + 1) ≡ number_on 2 (get_or ws (2 + k) 0)
  two_is k h =
      let a : (2 * k + 1) % 2 ≡ 1 = omega arith in
      let b : (2 * k + 1) / 2 ≡ k = omega arith in
      across_is ws (2 * k + 1) (number_on 2 (get_or ws (2 + k) 0)) (omega arith) (simp (a, b)) (numbers k h).2

  data_is : (k : ℕ) → k < 32 → get_or ws (2 + k) 0 ≡ data_word hv packet k
  unfolding data_word
  data_is k h =
      let w : ℕ = get_or ws (2 + k) 0 in
      let n = numbers k h in
      of_lanes w (narrow (2 + k) (omega arith))
      ∙ ap (λ (a : ℕ). lanes a (lane 1 w) (lane 2 w)) (terc4_number_lem (lane 0 w) n.0 ∙ ap terc4 (zero_is k h))
      ∙ ap₂ (lanes (terc4 (lane_zero hv packet k))) (terc4_number_lem (lane 1 w) n.1 ∙ ap terc4 (sym (one_is k h)))
      (terc4_number_lem (lane 2 w) n.2 ∙ ap terc4 (sym (two_is k h)))

  low_is : (i : ℕ) → i < 2 → get_or ws i 0 ≡ guard_word hv
  low_is zero h = guard 0 (omega arith)
  low_is (suc zero) h = guard 1 (omega arith)
  low_is (suc (suc i)) h = absurd (omega arith)

  high_is : (j : ℕ) → j < 2 → get_or ws (34 + j) 0 ≡ guard_word hv
  high_is zero h = guard 2 (omega arith)
  high_is (suc zero) h = guard 3 (omega arith)
  high_is (suc (suc j)) h = absurd (omega arith)

  word_is : (i : ℕ) → i < 36 → Dec (i < 2) → Dec (i < 34) → get_or ws i 0 ≡ island_word hv packet i
  word_is i h (yes a) b = low_is i a ∙ sym (guard_low hv packet i a)
  word_is i h (no a) (yes b) =
      let e : 2 + (i - 2) ≡ i = omega (arith, a) in
      subst (λ (j : ℕ). get_or ws j 0 ≡ island_word hv packet j) e (data_is (i - 2) (omega arith) ∙ sym (data_at hv packet (i - 2) (omega arith)))
  word_is i h (no a) (no b) =
      let e : 34 + (i - 34) ≡ i = omega (arith, b) in
      ap (λ (j : ℕ). get_or ws j 0) (sym e) ∙ high_is (i - 34) (omega arith) ∙ sym (guard_high hv packet i (omega (arith, b)))

  pub sound : ws ≡ island hv packet
  sound =
      ext_get_or 0 ws (island hv packet) (long ∙ sym (length-island hv packet))
      (λ i h. word_is i (omega arith) (dec_lt i 2) (dec_lt i 34) ∙ sym (island_at hv packet i (omega arith)))
