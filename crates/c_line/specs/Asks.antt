-- What the line entries ask where their words are lent as bytes: four bytes for each word, then what they ask of the words.
use Rattle.std.specs.Prelude.{List, ◌∷◌, ℕ}
use Rattle.refusal.specs.Verdict.{Ask}
use Rattle.timing.specs.declared.DviTiming.{DviTiming}
use Rattle.line.specs.Asks.{line_asks, island_asks}
use Rattle.word_bytes.specs.Words.{words_ask}

-- a line of n words
abbrev pub line_bytes_asks : ℕ → DviTiming → List ℕ → List Ask
line_bytes_asks n t lent = words_ask n lent ∷ line_asks t n n

-- an island line, with so many bytes of a packet
abbrev pub island_bytes_asks : DviTiming → List ℕ → ℕ → ℕ → List Ask
island_bytes_asks t lent bytes state = words_ask 56 lent ∷ island_asks t 56 bytes state
