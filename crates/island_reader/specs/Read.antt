-- What the reader asks of its arguments, and what it answers. Where a question is about many places, it fails at the lowest.
use Rattle.std.specs.Prelude.{Bool, not, ◌&&◌, List, [], ◌∷◌, ◌++◌, ℕ, zero, suc, ◌+◌, ◌-◌, ◌*◌, ◌/◌, ◌%◌, ◌^◌, eqb, ltb, length, get_or, Result, Ok, Err}
use Rattle.laws.specs.Search.{first}
use Rattle.refusal.specs.declared.Refusal.{Refusal}
use Rattle.refusal.specs.declared.Refusal.TheVariants.{Length, HighBits, GuardWord, NotTerc4, SyncBits, HeaderParity, SubpacketParity}
use Rattle.refusal.specs.Verdict.{Ask, ask, verdict, answered, kept}
use Rattle.hdmi.specs.Parity.{right}
use Rattle.hdmi.specs.Packet.{header, subpacket}
use Rattle.hdmi.specs.Island.{guard_word, marker}
use Rattle.island_reader.specs.Found.{pair_of, number_on, unread, packet_found}

-- f holds at none of the n numbers from i on; else the refusal at the lowest where it does
unfoldable pub nowhere : (ℕ → Bool) → ℕ → ℕ → (ℕ → Refusal) → Ask
nowhere f i n refusal = ask (eqb (first f i n) (i + n)) (refusal (first f i n))

-- 12: a word has bit 30 or 31 set
abbrev pub high_bits : List ℕ → ℕ → Bool
high_bits ws i = not (eqb (get_or ws i 0 / 2 ^ 30) 0)

-- the four guard words' indices
abbrev pub guard_place : ℕ → ℕ
guard_place zero = 0
guard_place (suc zero) = 1
guard_place (suc (suc zero)) = 34
guard_place (suc (suc (suc j))) = 35

-- 13: a guard word isn't that of word 0's pair, or word 0 has none
abbrev pub guard_wrong : ℕ → List ℕ → ℕ → Bool
guard_wrong hv ws j = not (ltb hv 4 && eqb (get_or ws (guard_place j) 0) (guard_word hv))

-- 14: a lane isn't TERC4
abbrev pub lane_wrong : List ℕ → ℕ → Bool
lane_wrong ws i = unread (get_or ws i 0)

-- 15: word 0 has a pair, and lane 0's low two bits aren't that pair or its high bit isn't the marker
abbrev pub sync_wrong : ℕ → List ℕ → ℕ → Bool
sync_wrong hv ws i =
    ltb hv 4 && not (eqb (number_on 0 (get_or ws i 0) % 4) hv && eqb (number_on 0 (get_or ws i 0) / 8 * 8) (marker (i - 2)))

abbrev pub high_ask : List ℕ → Ask
high_ask ws = nowhere (high_bits ws) 0 36 HighBits

abbrev pub guard_ask : ℕ → List ℕ → Ask
guard_ask hv ws = nowhere (guard_wrong hv ws) 0 4 (λ j. GuardWord (guard_place j))

abbrev pub lane_ask : List ℕ → Ask
lane_ask ws = nowhere (lane_wrong ws) 2 32 NotTerc4

abbrev pub sync_ask : ℕ → List ℕ → Ask
sync_ask hv ws = nowhere (sync_wrong hv ws) 2 32 SyncBits

-- 16 and 17
abbrev pub parity_asks : List ℕ → List Ask
parity_asks p = ask (right 3 (header p)) HeaderParity ∷ nowhere (λ s. not (right 7 (subpacket s p))) 0 4 SubpacketParity ∷ []

-- of 36 words
unfoldable pub word_asks : List ℕ → List Ask
word_asks ws = high_ask ws ∷ guard_ask (pair_of (get_or ws 0 0)) ws ∷ lane_ask ws ∷ sync_ask (pair_of (get_or ws 0 0)) ws ∷ []

abbrev pub read_asks : List ℕ → List ℕ → List Ask
read_asks ws out = ask (eqb (length ws) 36) Length ∷ ask (eqb (length out) 36) Length ∷ (word_asks ws ++ parity_asks (packet_found ws))

-- the sync pair, or the refusal; and the packet where there is none
abbrev pub read_answer : List ℕ → List ℕ → Result ℕ Refusal
read_answer ws out = answered (verdict (read_asks ws out)) (Ok (pair_of (get_or ws 0 0))) Err

abbrev pub read_out : List ℕ → List ℕ → List ℕ
read_out ws out = kept (verdict (read_asks ws out)) (packet_found ws) out
