-- What the island entries ask where the words are lent as bytes: four bytes for each of 36 words, then what they ask of the words.
use Rattle.std.specs.Prelude.{List, ◌∷◌, ℕ, get_or, Result, Ok, Err}
use Rattle.laws.specs.Bytes.{numbers_of}
use Rattle.refusal.specs.declared.Refusal.{Refusal}
use Rattle.refusal.specs.Verdict.{Ask, verdict, answered, kept}
use Rattle.island.specs.Encode.{encode_asks}
use Rattle.island_reader.specs.Found.{pair_of, packet_found}
use Rattle.island_reader.specs.Read.{read_asks}
use Rattle.word_bytes.specs.Words.{words_ask}

-- the words that a buffer of bytes holds
abbrev pub words_in : List ℕ → List ℕ
words_in lent = numbers_of 4 36 lent

abbrev pub encode_island_asks : ℕ → List ℕ → List ℕ → List Ask
encode_island_asks hv packet lent = words_ask 36 lent ∷ encode_asks hv packet (words_in lent)

abbrev pub read_island_asks : List ℕ → List ℕ → List Ask
read_island_asks lent packet = words_ask 36 lent ∷ read_asks (words_in lent) packet

-- the sync pair, or the refusal; and the packet where there is none
abbrev pub read_island_of : List ℕ → List ℕ → Result ℕ Refusal
read_island_of lent packet = answered (verdict (read_island_asks lent packet)) (Ok (pair_of (get_or (words_in lent) 0 0))) Err

abbrev pub read_island_out : List ℕ → List ℕ → List ℕ
read_island_out lent packet = kept (verdict (read_island_asks lent packet)) (packet_found (words_in lent)) packet
