-- The transposition, as two delta swaps; and a word's characters from the transposed pairs and the header's word.
use mathlib.Core.Path.{◌≡◌, ap, ap₂, ◌∙◌}
use mathlib.Core.Bool.{◌&&◌}
use mathlib.Core.List.{List, [], ◌∷◌}
use Prim.Native.Nat.{ℕ, ◌+◌, ◌*◌, ◌/◌, ◌%◌, ◌^◌, ◌<◌}
use native.Mathlib.Nat.{zero-add}
use native.Mathlib.Omega.{arith}
use lib.Bits.{bit_or, or_shifted_r}
use lib.Dec.{T, eqb, eqb→eq}
use lib.ListN.{get_or, take, drop}
use lib.Seq.{get_or-take, get_or-drop}
use Rattle.std.specs.Int.{from_le_bytes, w32, w64}
use Rattle.laws.specs.Bit.{bit}
use Rattle.laws.proofs.Bits.{bit_mod}
use Rattle.laws.specs.Digits.{numeral}
use Rattle.laws.proofs.Digits.{numeral_agree, numeral-bit}
use Rattle.laws.proofs.Finite.{below}
use Rattle.laws.proofs.Swaps.{Swap, swap, swaps, sources, orderly, swaps_bit}
use Rattle.laws.proofs.Truth.{and_left, and_right}
use Rattle.dvi.specs.Lanes.{lanes}
use Rattle.hdmi.specs.Terc4.{terc4}
use Rattle.hdmi.specs.Island.{header_bit, subpacket_bit, marker, across, data_word}
use Rattle.island.specs.Pairs.{evens, odds}
use Rattle.island.specs.Words.{transposed, Subpacket, Pairs, Header, word_from}

-- ---- the transposition

abbrev pub steps : List Swap
steps = swap 0xcc00cc 6 ∷ swap 0xf0f0 12 ∷ []

-- the masks are in order, and take each bit from where it has to come from
in_order : (k : ℕ) → k < 32 → T (orderly 32 steps k && eqb (sources steps k) (transposed k))
unfolding bit
in_order = below (λ k. orderly 32 steps k && eqb (sources steps k) (transposed k)) 32 tt

pub transposed-bit : (v k : ℕ) → k < 32 → bit k (swaps 32 steps v) ≡ bit (transposed k) v
transposed-bit v k h =
    let t = in_order k h in
    swaps_bit 32 steps v k h (and_left (orderly 32 steps k) (eqb (sources steps k) (transposed k)) t)
    ∙ ap (λ (j : ℕ). bit j v)
    (eqb→eq (sources steps k) (transposed k) (and_right (orderly 32 steps k) (eqb (sources steps k) (transposed k)) t))

-- by pairs: pair s of byte j comes from pair j of byte s
pub transposed_pair : (j s o : ℕ) → s < 4 → o < 2 → transposed (8 * j + (2 * s + o)) ≡ 8 * s + (2 * j + o)
transposed_pair j s o hs ho =
    let k : ℕ = 8 * j + (2 * s + o) in
    let a : k / 8 ≡ j = omega arith in
    let b : k / 2 ≡ 4 * j + s = omega arith in
    let d : k / 2 % 4 ≡ s = omega arith in
    omega arith

-- ---- words of a packet's bytes, the first byte lowest

module _ (p : List ℕ) (small : (m : ℕ) → get_or p m 0 < 256) (at : ℕ) where
  byte : (w s : ℕ) → s < w → get_or (take w (drop at p)) s 0 ≡ get_or p (at + s) 0
  byte w s h = get_or-take w (drop at p) s 0 h ∙ get_or-drop at p s 0

  behind : ℕ → ℕ
  behind s = get_or p (at + s) 0

  bit_of : (w v : ℕ) → v ≡ numeral 8 (λ s. get_or (take w (drop at p)) s 0) 0 w → (n : ℕ) → n < 8 * w → bit n v ≡ bit (n % 8) (get_or p (at + n / 8) 0)
  bit_of w v e n h =
      let d : n ≡ 8 * (n / 8) + n % 8 = omega arith in
      ap₂ bit d (e ∙ numeral_agree 8 (λ s. get_or (take w (drop at p)) s 0) (λ s. get_or p (at + s) 0) 0 w (λ s l u. byte w s (omega arith)))
      ∙ numeral-bit 8 (λ s. get_or p (at + s) 0) (λ s. small (at + s)) 0 w (n / 8) (n % 8) (omega arith) (omega arith)
      ∙ ap (λ (s : ℕ). bit (n % 8) (get_or p (at + s) 0)) (zero-add (n / 8))

  pub word_32 : (n : ℕ) → n < 32 → bit n (from_le_bytes w32 (take 4 (drop at p))) ≡ bit (n % 8) (get_or p (at + n / 8) 0)
  word_32 n h = bit_of 4 (from_le_bytes w32 (take 4 (drop at p))) (omega arith) n (omega arith)

  pub word_64 : (n : ℕ) → n < 64 → bit n (from_le_bytes w64 (take 8 (drop at p))) ≡ bit (n % 8) (get_or p (at + n / 8) 0)
  word_64 n h = bit_of 8 (from_le_bytes w64 (take 8 (drop at p))) (omega arith) n (omega arith)

pub header_of : (p l : List ℕ) → ((m : ℕ) → get_or p m 0 < 256) → l ≡ take 4 p → Header p 0 (from_le_bytes w32 l)
unfolding Header header_bit
header_of p l small e k h =
    ap (λ (l : List ℕ). bit k (from_le_bytes w32 l)) e ∙ word_32 p small 0 k (omega arith) ∙ ap₂ (λ (x y : ℕ). bit x (get_or p y 0)) (omega arith) (omega arith)

pub subpacket_of : (p l : List ℕ) (s : ℕ) → ((m : ℕ) → get_or p m 0 < 256) → l ≡ take 8 (drop (4 + 8 * s) p) → Subpacket p s (from_le_bytes w64 l)
unfolding Subpacket subpacket_bit
subpacket_of p l s small e n h = ap (λ (l : List ℕ). bit n (from_le_bytes w64 l)) e ∙ word_64 p small (4 + 8 * s) n h

-- lane 0 or-ed in below the two others
pub or_lanes : (a b c : ℕ) → a < 1024 → bit_or a (lanes 0 b c) ≡ lanes a b c
or_lanes a b c h =
    let y : ℕ = b + c * 2 ^ 10 in
    let e : lanes 0 b c ≡ y * 2 ^ 10 = omega arith in
    ap (bit_or a) e ∙ or_shifted_r y 10 a h ∙ omega arith

-- ---- one character

module _ (p : List ℕ) (i j v : ℕ) (hi : i < 8) (hj : j < 4) (pairs : Pairs p i j v) where
  abbrev k : ℕ
  k = 4 * i + j

  pair : (s o : ℕ) → s < 4 → o < 2 → bit (2 * s + o) (v % 256) ≡ subpacket_bit p s (2 * k + o)
  unfolding Pairs
  pair s o hs ho =
      bit_mod (2 * s + o) 8 v (omega arith) ∙ ap (λ (m : ℕ). bit m v) (omega arith) ∙ pairs 0 s o (omega arith) hs ho ∙ ap (subpacket_bit p s) (omega arith)

  pub word_of : (hv h : ℕ) → Header p i h → word_from hv h v i j ≡ data_word hv p k
  unfolding word_from data_word Header
  word_of hv h head =
      let x : ℕ = v % 256 in
      let one : evens x ≡ across p (2 * k) =
      numeral_agree 1 (λ s. bit (2 * s) x) (λ s. subpacket_bit p s (2 * k)) 0 4
      (λ s a b. ap (λ (u : ℕ). bit u x) (omega arith) ∙ pair s 0 b (omega arith) ∙ ap (subpacket_bit p s) (omega arith)) in
      let two : odds x ≡ across p (2 * k + 1) =
      numeral_agree 1 (λ s. bit (2 * s + 1) x) (λ s. subpacket_bit p s (2 * k + 1)) 0 4 (λ s a b. pair s 1 b (omega arith)) in
      ap₂ (λ (a b : ℕ). lanes (terc4 (hv + 4 * a + marker k)) (terc4 b) (terc4 (odds x))) (head j (omega arith)) one
      ∙ ap (λ (b : ℕ). lanes (terc4 (hv + 4 * header_bit p k + marker k)) (terc4 (across p (2 * k))) (terc4 b)) two
