-- No two packets of 36 bytes and no two sync pairs have the same island; and already one word has only one sync pair and one bit of each block.
use mathlib.Core.Path.{◌≡◌, sym, ap, subst, ◌∙◌}
use mathlib.Core.List.{List}
use Prim.Native.Nat.{ℕ, ◌+◌, ◌-◌, ◌*◌, ◌/◌, ◌%◌, ◌<◌}
use native.Mathlib.Decide.{dec_lt}
use native.Mathlib.Omega.{arith}
use lib.ListN.{length, get_or}
use lib.Seq.{ext_get_or}
use Rattle.laws.specs.Bit.{bit}
use Rattle.laws.proofs.Bits.{bit_ext}
use Rattle.dvi.specs.Lanes.{lane}
use Rattle.hdmi.specs.Terc4.{terc4_number}
use Rattle.hdmi.specs.Island.{header_bit, subpacket_bit, data_word, island_word, island}
use Rattle.hdmi.proofs.Island.{island_at, data_at, guard_low, guard_once, tells_pair, tells_header, tells_subpacket}

-- ---- one word

module _ (hv hw : ℕ) (p q : List ℕ) (k : ℕ) (hp : hv < 4) (hq : hw < 4) (e : data_word hv p k ≡ data_word hw q k) where
  pub word_pair : hv ≡ hw
  word_pair = sym (tells_pair hv p k hp) ∙ ap (λ (w : ℕ). terc4_number (lane 0 w) % 4) e ∙ tells_pair hw q k hq

  pub word_header : header_bit p k ≡ header_bit q k
  word_header = sym (tells_header hv p k hp) ∙ ap (λ (w : ℕ). bit 2 (terc4_number (lane 0 w))) e ∙ tells_header hw q k hq

  pub word_subpacket : (s o : ℕ) → s < 4 → o < 2 → subpacket_bit p s (2 * k + o) ≡ subpacket_bit q s (2 * k + o)
  word_subpacket s o hs ho =
      sym (tells_subpacket hv p k hp s o hs ho) ∙ ap (λ (w : ℕ). bit s (terc4_number (lane (1 + o) w))) e ∙ tells_subpacket hw q k hq s o hs ho

-- ---- packets by their bits

module _ (p q : List ℕ) (lp : length p ≡ 36) (lq : length q ≡ 36) (bp : (m : ℕ) → get_or p m 0 < 256) (bq : (m : ℕ) → get_or q m 0 < 256) where
  module _ (heads : (k : ℕ) → k < 32 → header_bit p k ≡ header_bit q k) (subs : (s n : ℕ) → s < 4 → n < 64 → subpacket_bit p s n ≡ subpacket_bit q s n) where
    byte-of-header : (i : ℕ) → i < 4 → get_or p i 0 ≡ get_or q i 0
    unfolding header_bit
    byte-of-header i h =
        bit_ext 8 (get_or p i 0) (get_or q i 0) (bp i) (bq i)
        (λ n l.
        let m : (8 * i + n) % 8 ≡ n = omega arith in
        let d : (8 * i + n) / 8 ≡ i = omega arith in
        rw (m, d) at (heads (8 * i + n) (omega arith)))

    byte-of-subpacket : (s i : ℕ) → s < 4 → i < 8 → get_or p (4 + 8 * s + i) 0 ≡ get_or q (4 + 8 * s + i) 0
    unfolding subpacket_bit
    byte-of-subpacket s i hs h =
        bit_ext 8 (get_or p (4 + 8 * s + i) 0) (get_or q (4 + 8 * s + i) 0) (bp (4 + 8 * s + i)) (bq (4 + 8 * s + i))
        (λ n l.
        let m : (8 * i + n) % 8 ≡ n = omega arith in
        let d : (8 * i + n) / 8 ≡ i = omega arith in
        rw (m, d) at (subs s (8 * i + n) hs (omega arith)))

    byte_at : (m : ℕ) → m < 36 → Dec (m < 4) → get_or p m 0 ≡ get_or q m 0
    byte_at m h (yes l) = byte-of-header m l
    byte_at m h (no l) =
        let s : ℕ = (m - 4) / 8 in
        let i : ℕ = (m - 4) % 8 in
        let z : 4 + 8 * s + i ≡ m = omega (arith, l) in
        subst (λ (u : ℕ). get_or p u 0 ≡ get_or q u 0) z (byte-of-subpacket s i (omega arith) (omega arith))

    -- a packet is the bits of its blocks
    pub packet-by-bits : p ≡ q
    packet-by-bits = ext_get_or 0 p q (lp ∙ sym lq) (λ m h. byte_at m (omega arith) (dec_lt m 4))

-- ---- whole islands

module _ (hv hw : ℕ) (p q : List ℕ) (hp : hv < 4) (hq : hw < 4) (e : island hv p ≡ island hw q) where
  word : (i : ℕ) → i < 36 → island_word hv p i ≡ island_word hw q i
  word i h = sym (island_at hv p i h) ∙ ap (λ (l : List ℕ). get_or l i 0) e ∙ island_at hw q i h

  character : (k : ℕ) → k < 32 → data_word hv p k ≡ data_word hw q k
  character k h = sym (data_at hv p k h) ∙ word (2 + k) (omega arith) ∙ data_at hw q k h

  pub pair_once : hv ≡ hw
  pair_once =
      guard_once hv hw hp hq
      (sym (guard_low hv p 0 (omega arith)) ∙ word 0 (omega arith) ∙ guard_low hw q 0 (omega arith))

  sub : (s n : ℕ) → s < 4 → n < 64 → subpacket_bit p s n ≡ subpacket_bit q s n
  sub s n hs h =
      let z : 2 * (n / 2) + n % 2 ≡ n = omega arith in
      subst (λ (u : ℕ). subpacket_bit p s u ≡ subpacket_bit q s u) z
      (word_subpacket hv hw p q (n / 2) hp hq (character (n / 2) (omega arith)) s (n % 2) hs (omega arith))

  pub packet_once : length p ≡ 36 → length q ≡ 36 → ((m : ℕ) → get_or p m 0 < 256) → ((m : ℕ) → get_or q m 0 < 256) → p ≡ q
  packet_once lp lq bp bq = packet-by-bits p q lp lq bp bq (λ k h. word_header hv hw p q k hp hq (character k h)) sub
