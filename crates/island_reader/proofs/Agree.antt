-- Where every lane is TERC4, what the numbers say is what the words say: the bits, the packet, and the sync bits.
use mathlib.Core.Path.{◌≡◌, refl, sym, ap, ap₂, ◌∙◌}
use mathlib.Core.Bool.{Bool, false, not, ◌&&◌}
use mathlib.Core.List.{List, [], ◌∷◌}
use Prim.Native.Nat.{ℕ, zero, suc, ◌+◌, ◌-◌, ◌*◌, ◌/◌, ◌%◌, ◌^◌, ◌≤◌, ◌<◌}
use native.Mathlib.Decide.{dec_lt, ℕ_discrete}
use native.Mathlib.Omega.{arith}
use borrow.Author.Tests.{lt-ltb, le-ltb, eq-eqb, ne_eqb}
use lib.Dec.{eqb}
use lib.ListN.{length, get_or}
use lib.Seq.{ext_get_or}
use Rattle.std.specs.Prelude.{Ok}
use Rattle.laws.specs.Bit.{bit}
use Rattle.laws.proofs.Bits.{bit_mod, bit_shr}
use Rattle.laws.proofs.Digits.{numeral_agree}
use Rattle.laws.proofs.Searching.{first_agree}
use Rattle.laws.proofs.Tables.{made_at}
use Rattle.refusal.specs.declared.Refusal.TheVariants.{SyncBits}
use Rattle.refusal.specs.Verdict.{unless, verdict}
use Rattle.hdmi.specs.Island.{marker}
use Rattle.hdmi.proofs.Island.{marker_is}
use Rattle.island_reader.specs.Found.{number_on, unread, header_found, subpacket_found, header_byte, subpacket_byte, byte_found, packet_found}
use Rattle.island_reader.specs.Numbers.{numbers_of, numbers_in, header_in, subpacket_in, header_byte_in, subpacket_byte_in, packet_in, sync_unlike}
use Rattle.island_reader.specs.Read.{nowhere, sync_wrong}
use Rattle.island_reader.proofs.Nibbles.{numbers_lt, numbers_at}
use Rattle.island_reader.proofs.Unpacking.{byte_in, length_packet, packet_at}

pub length_found : (ws : List ℕ) → length (packet_found ws) ≡ 36
unfolding packet_found
length_found ws = refl

pub found_at : (ws : List ℕ) (m : ℕ) → m < 36 → get_or (packet_found ws) m 0 ≡ byte_found ws m
unfolding packet_found
found_at ws = made_at (byte_found ws) 36

-- ---- one word

header-bit : (w : ℕ) → unread w ≡ false → bit 2 (numbers_of w) ≡ bit 2 (number_on 0 w)
unfolding bit
header-bit w e = omega (arith, numbers_lt w e)

low_two : (w : ℕ) → unread w ≡ false → numbers_of w % 4 ≡ number_on 0 w % 4
low_two w e = omega arith

low_four : (w : ℕ) → unread w ≡ false → numbers_of w % 16 ≡ number_on 0 w
low_four w e = omega (arith, numbers_lt w e)

subpacket-bit : (w s o : ℕ) → s < 4 → o < 2 → unread w ≡ false → bit (4 + 4 * o + s) (numbers_of w) ≡ bit s (number_on (1 + o) w)
subpacket-bit w s zero hs ho e =
    let x : ℕ = numbers_of w in
    let d : x / 2 ^ 4 % 2 ^ 4 ≡ number_on 1 w = omega (arith, numbers_lt w e) in
    sym (bit_shr s 4 x) ∙ sym (bit_mod s 4 (x / 2 ^ 4) hs) ∙ ap (bit s) d
subpacket-bit w s (suc zero) hs ho e =
    let x : ℕ = numbers_of w in
    let d : x / 2 ^ 8 ≡ number_on 2 w = omega (arith, numbers_lt w e) in
    sym (bit_shr s 8 x) ∙ ap (bit s) d
subpacket-bit w s (suc (suc o)) hs ho e = absurd (omega arith)

-- ---- the packet

module _ (ws : List ℕ) (clean : (k : ℕ) → k < 32 → unread (get_or ws (2 + k) 0) ≡ false) where
  header_agrees : (k : ℕ) → k < 32 → header_in (numbers_in ws) k ≡ header_found ws k
  unfolding header_in header_found
  header_agrees k h = ap (bit 2) (numbers_at ws k h) ∙ header-bit (get_or ws (2 + k) 0) (clean k h)

  subpacket_agrees : (s n : ℕ) → s < 4 → n < 64 → subpacket_in (numbers_in ws) s n ≡ subpacket_found ws s n
  unfolding subpacket_in subpacket_found
  subpacket_agrees s n hs h =
      ap (bit (4 + 4 * (n % 2) + s)) (numbers_at ws (n / 2) (omega arith))
      ∙ subpacket-bit (get_or ws (2 + n / 2) 0) s (n % 2) hs (omega arith) (clean (n / 2) (omega arith))

  header_byte_agrees : (i : ℕ) → i < 4 → header_byte_in (numbers_in ws) i ≡ header_byte ws i
  unfolding header_byte_in header_byte
  header_byte_agrees i h =
      numeral_agree 1 (λ n. header_in (numbers_in ws) (8 * i + n)) (λ n. header_found ws (8 * i + n)) 0 8
      (λ n a b. header_agrees (8 * i + n) (omega arith))

  subpacket_byte_agrees : (s i : ℕ) → s < 4 → i < 8 → subpacket_byte_in (numbers_in ws) s i ≡ subpacket_byte ws s i
  unfolding subpacket_byte_in subpacket_byte
  subpacket_byte_agrees s i hs h =
      numeral_agree 1 (λ n. subpacket_in (numbers_in ws) s (8 * i + n)) (λ n. subpacket_found ws s (8 * i + n)) 0 8
      (λ n a b. subpacket_agrees s (8 * i + n) hs (omega arith))

  byte_agrees : (m : ℕ) → m < 36 → Dec (m < 4) → byte_in (numbers_in ws) m ≡ byte_found ws m
  byte_agrees m h (yes l) = simp (lt-ltb m 4 l) (header_byte_agrees m l)
  byte_agrees m h (no l) =
      let g : 4 ≤ m = omega (arith, l) in
      simp (le-ltb m 4 g) (subpacket_byte_agrees ((m - 4) / 8) ((m - 4) % 8) (omega arith) (omega arith))

  pub packet_agrees : packet_in (numbers_in ws) ≡ packet_found ws
  packet_agrees =
      ext_get_or 0 (packet_in (numbers_in ws)) (packet_found ws) (length_packet (numbers_in ws) ∙ sym (length_found ws))
      (λ m h.
      let l : m < 36 = omega (arith, length_packet (numbers_in ws)) in
      packet_at (numbers_in ws) m l ∙ byte_agrees m l (dec_lt m 4) ∙ sym (found_at ws m l))

  -- ---- the sync bits

  -- two bits below and a bit of weight 8 above are compared together or apart
  together : (p q a b : ℕ) → p < 4 → a < 4 → Dec (p ≡ a) → Dec (q ≡ b) → eqb (p + q * 8) (a + b * 8) ≡ (eqb p a && eqb q b)
  together p q a b hp ha (yes d) (yes e) = simp (eq-eqb p a d, eq-eqb q b e, eq-eqb (p + q * 8) (a + b * 8) (omega arith))
  together p q a b hp ha (yes d) (no e) = simp (eq-eqb p a d, ne_eqb q b e, ne_eqb (p + q * 8) (a + b * 8) (λ z. e (omega arith)))
  together p q a b hp ha (no d) e = simp (ne_eqb p a d, ne_eqb (p + q * 8) (a + b * 8) (λ z. d (omega arith)))

  module _ (hv : ℕ) (pair : hv < 4) where
    same-eighths : (x y m n : ℕ) → m ≡ x * 8 → n ≡ y * 8 → Dec (x ≡ y) → eqb x y ≡ eqb m n
    same-eighths x y m n d e (yes z) = eq-eqb x y z ∙ sym (eq-eqb m n (omega arith))
    same-eighths x y m n d e (no z) = ne_eqb x y z ∙ sym (ne_eqb m n (λ w. z (omega arith)))

    sync-agrees : (k : ℕ) → k < 32 → sync_unlike hv (numbers_in ws) (2 + k) ≡ sync_wrong hv ws (2 + k)
    sync-agrees k h =
        let w : ℕ = get_or ws (2 + k) 0 in
        let a : ℕ = number_on 0 w in
        let x : ℕ = get_or (numbers_in ws) k 0 in
        let m : ℕ = marker k in
        let place : 2 + k - 2 ≡ k = omega arith in
        let e : x ≡ numbers_of w = numbers_at ws k h in
        let c : x % 4 + x % 16 / 8 * 8 ≡ a % 4 + a / 8 * 8 =
        ap (λ (y : ℕ). y % 4 + y % 16 / 8 * 8) e ∙ ap₂ (λ (u v : ℕ). u + v / 8 * 8) (low_two w (clean k h)) (low_four w (clean k h)) in
        let d : hv + m ≡ hv + m / 8 * 8 = omega (arith, marker_is k) in
        let t : eqb (x % 4 + x % 16 / 8 * 8) (hv + m) ≡ (eqb (a % 4) hv && eqb (a / 8 * 8) m) =
        ap₂ eqb c d ∙ together (a % 4) (a / 8) hv (m / 8) (omega arith) pair (ℕ_discrete (a % 4) hv) (ℕ_discrete (a / 8) (m / 8))
        ∙ ap (λ (b : Bool). eqb (a % 4) hv && b) (same-eighths (a / 8) (m / 8) (a / 8 * 8) m refl (sym (marker_is k).0) (ℕ_discrete (a / 8) (m / 8))) in
        simp (lt-ltb hv 4 pair, place) (ap not t)

    pub sync-ask-agrees : verdict (nowhere (sync_unlike hv (numbers_in ws)) 2 32 SyncBits ∷ []) ≡ verdict (nowhere (sync_wrong hv ws) 2 32 SyncBits ∷ [])
    unfolding nowhere
    sync-ask-agrees =
        ap (λ (x : ℕ). unless (eqb x 34) (SyncBits x) (Ok tt))
        (first_agree (sync_unlike hv (numbers_in ws)) (sync_wrong hv ws) 2 32
        (λ i a b.
        let e : 2 + (i - 2) ≡ i = omega arith in
        ap (sync_unlike hv (numbers_in ws)) (sym e) ∙ sync-agrees (i - 2) (omega arith) ∙ ap (sync_wrong hv ws) e))
