-- Words that cross as bytes.
use Rattle.std.specs.Prelude.{Bool, List, ℕ, ◌*◌, eqb, length}
use Rattle.refusal.specs.declared.Refusal.TheVariants.{Length}
use Rattle.refusal.specs.Verdict.{Ask, ask, unless, Verdict}

-- so many bytes are four for each of n words
abbrev pub four_each : ℕ → ℕ → Bool
four_each bytes n = eqb bytes (4 * n)

-- four bytes were lent for each of n words
abbrev pub words_ask : ℕ → List ℕ → Ask
words_ask n lent = ask (four_each (length lent) n) Length

-- the same question before a verdict that is already known
abbrev pub words_first : ℕ → List ℕ → Verdict → Verdict
words_first n lent v = unless (four_each (length lent) n) Length v
