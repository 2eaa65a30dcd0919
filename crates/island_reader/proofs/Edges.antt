-- Both sides of each bound, at the island of a packet of zeros.
use mathlib.Core.Path.{◌≡◌, refl, ap, ◌∙◌}
use mathlib.Core.Bool.{false, not}
use mathlib.Core.List.{List}
use Prim.Native.Nat.{ℕ, ◌+◌, ◌/◌, ◌%◌, ◌^◌, ◌<◌}
use native.Mathlib.Omega.{arith}
use borrow.Author.Tests.{eq-eqb, eqb-true, not-false}
use lib.Dec.{eqb}
use lib.ListN.{get_or, set, replicate}
use lib.Pow.{shr-shr}
use Rattle.refusal.specs.declared.Refusal.{Refusal}
use Rattle.std.specs.Prelude.{Result, Ok, Err}
use Rattle.laws.specs.Bit.{bit}
use Rattle.refusal.specs.declared.Refusal.TheVariants.{Length, HighBits, GuardWord, NotTerc4}
use Rattle.hdmi.specs.Parity.{sent, parity}
use Rattle.hdmi.specs.Terc4.{terc4, terc4_number}
use Rattle.hdmi.specs.Island.{guard_word, header_bit, subpacket_bit, data_word, island_word, island}
use Rattle.island_reader.specs.Found.{pair_of, header_found, subpacket_found, header_byte, subpacket_byte, packet_found}
use Rattle.island_reader.specs.Read.{nowhere, word_asks, read_answer}

abbrev zeros : List ℕ
zeros = replicate 36 0

-- the island with x added to word i, read
abbrev changed : ℕ → ℕ → ℕ → Result ℕ Refusal
changed hv i x = read_answer (set (island hv zeros) i (get_or (island hv zeros) i 0 + x)) zeros

-- ---- lengths

pub words_35 : read_answer (replicate 35 0) zeros ≡ Err Length
words_35 = refl

pub words_37 : read_answer (replicate 37 0) zeros ≡ Err Length
words_37 = refl

pub bytes_35 : read_answer (island 3 zeros) (replicate 35 0) ≡ Err Length
unfolding island
bytes_35 = refl

pub bytes_37 : read_answer (island 3 zeros) (replicate 37 0) ≡ Err Length
unfolding island
bytes_37 = refl

pub both_36 : read_answer (island 3 zeros) zeros ≡ Ok 3
unfolding nowhere word_asks island island_word guard_word data_word header_bit subpacket_bit bit terc4 terc4_number pair_of header_found subpacket_found header_byte subpacket_byte packet_found parity sent
both_36 = refl

-- ---- bits 30 and 31, and no other

pub bit_30 : changed 3 5 (2 ^ 30) ≡ Err (HighBits 5)
unfolding nowhere word_asks island island_word guard_word data_word header_bit subpacket_bit bit terc4
bit_30 = refl

pub bit_31 : changed 3 35 (2 ^ 31) ≡ Err (HighBits 35)
unfolding nowhere word_asks island island_word guard_word data_word header_bit subpacket_bit bit terc4
bit_31 = refl

pub bit_29 : changed 3 5 (2 ^ 28) ≡ Err (NotTerc4 5)
unfolding nowhere word_asks island island_word guard_word data_word header_bit subpacket_bit bit terc4 terc4_number pair_of
bit_29 = refl

four_only : (q : ℕ) → q < 4 → q % 2 ≡ 0 → q / 2 ^ 1 % 2 ≡ 0 → q ≡ 0
four_only q h a b = omega arith

module _ (w : ℕ) (fits : w < 2 ^ 32) where
  pub high_bits_clear : not (eqb (w / 2 ^ 30) 0) ≡ false → (bit 30 w ≡ 0) × (bit 31 w ≡ 0)
  unfolding bit
  high_bits_clear e =
      let z : w / 2 ^ 30 ≡ 0 = eqb-true (w / 2 ^ 30) 0 (not-false (eqb (w / 2 ^ 30) 0) e) in
      (omega arith, omega arith)

  pub clear_high_bits : bit 30 w ≡ 0 → bit 31 w ≡ 0 → not (eqb (w / 2 ^ 30) 0) ≡ false
  unfolding bit
  clear_high_bits a b =
      let q : ℕ = w / 2 ^ 30 in
      let small : q < 4 = omega arith in
      let z : w / 2 ^ 30 ≡ 0 = four_only q small a (ap (λ (x : ℕ). x % 2) (shr-shr w 30 1) ∙ b) in
      simp (eq-eqb (w / 2 ^ 30) 0 z)

-- ---- guard words: word 0 of no pair; one of another pair

pub no_pair : changed 3 0 1 ≡ Err (GuardWord 0)
unfolding nowhere word_asks island island_word guard_word data_word header_bit subpacket_bit bit terc4 pair_of
no_pair = refl

pub last_guard : changed 3 35 1 ≡ Err (GuardWord 35)
unfolding nowhere word_asks island island_word guard_word data_word header_bit subpacket_bit bit terc4 pair_of
last_guard = refl
