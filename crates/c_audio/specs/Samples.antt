-- Audio samples that are lent as bytes: two bytes a sample, the low one first, sixteen bits in two's complement.
use Rattle.std.specs.Prelude.{List, ◌∷◌, map, ℕ, ◌/◌, ◌%◌, eqb, ℤ, pos, nat_abs, length, Result, Ok, Err}
use Rattle.laws.specs.Bytes.{numbers_of}
use Rattle.hdmi.specs.Audio.{frames, audio_packet, count_after}
use Rattle.refusal.specs.declared.Refusal.TheVariants.{Length}
use Rattle.refusal.specs.declared.Refused.{Refused}
use Rattle.refusal.specs.Verdict.{Ask, ask, verdict, answered, kept, handed_back}
use Rattle.audio.specs.Asks.{audio_asks}
use Rattle.crossing.specs.declared.Answer.{Answer}
use Rattle.crossing.specs.Crossing.{carried_by}
use Rattle.crossing.specs.Signed.{signed}

-- the samples that a buffer of bytes holds
abbrev pub samples_in : List ℕ → List ℤ
samples_in lent = map (signed 16) (numbers_of 2 (length lent / 2) lent)

-- whole samples, then what the builder asks of them
abbrev pub audio_bytes_asks : List ℕ → List ℕ → ℤ → List Ask
audio_bytes_asks packet lent count = ask (eqb (length lent % 2) 0) Length ∷ audio_asks packet (samples_in lent) count

abbrev pub count_of : List ℕ → List ℕ → ℤ → Result ℤ (Refused ℤ)
count_of packet lent count =
    answered (verdict (audio_bytes_asks packet lent count)) (Ok (pos (count_after (frames (samples_in lent)) (nat_abs count))))
    (λ r. Err (handed_back count r))

abbrev pub packet_out : List ℕ → List ℕ → ℤ → List ℕ
packet_out packet lent count = kept (verdict (audio_bytes_asks packet lent count)) (audio_packet (samples_in lent) (nat_abs count)) packet

-- how a count crosses: it is carried
abbrev pub counted : Result ℤ (Refused ℤ) → Answer
counted = carried_by (λ _. 0) (λ count. count) (λ count. count)
