-- A line counter that is lent as four bytes, and what an advance in place asks.
use Rattle.std.specs.Prelude.{List, ◌∷◌, ℕ, take}
use Rattle.laws.specs.Bytes.{from_low}
use Rattle.refusal.specs.Verdict.{Ask}
use Rattle.timing.specs.declared.DviTiming.{DviTiming}
use Rattle.counter.specs.Counter.{counter_asks}
use Rattle.word_bytes.specs.Words.{words_ask}

abbrev pub counter_of : List ℕ → ℕ
counter_of lent = from_low (take 4 lent)

-- four bytes, then what the advance of their counter asks
abbrev pub counter_bytes_asks : DviTiming → List ℕ → List Ask
counter_bytes_asks t lent = words_ask 1 lent ∷ counter_asks t (counter_of lent)
