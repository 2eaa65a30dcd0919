-- Two symbols in a word, and what each entry on pairs answers.
use Rattle.std.specs.Prelude.{◌&&◌, List, [], ◌∷◌, ℕ, ◌+◌, ◌*◌, ◌^◌, ltb, ℤ, pos, Result, Ok, Err}
use Rattle.dvi.specs.Encoder.{is_zero}
use Rattle.dvi.specs.Symbol.{symbol_of, next_of}
use Rattle.refusal.specs.declared.Refusal.TheVariants.{Unlisted, Unbalanced}
use Rattle.refusal.specs.declared.Refusal.{Refusal}
use Rattle.symbol.specs.declared.TmdsPair.{TmdsPair}
use Rattle.refusal.specs.Verdict.{Ask, ask, verdict, answered}

-- the first symbol in bits 0..9, the second in 10..19
abbrev pub pair_word : ℕ → ℕ → ℕ
pair_word s t = s + t * 2 ^ 10

-- any two numbers of ten bits are joined
abbrev pub join_asks : ℕ → ℕ → List Ask
join_asks s t = ask (ltb s 1024 && ltb t 1024) Unlisted ∷ []

abbrev pub join_of : ℕ → ℕ → Result TmdsPair Refusal
join_of s t = answered (verdict (join_asks s t)) (Ok (record { 0 = pair_word s t })) Err

-- two bytes on a lane that stands at 0: their word, and where they leave it
abbrev pub word_of : ℕ → ℕ → ℕ
word_of b c = pair_word (symbol_of (pos 0) b) (symbol_of (next_of (pos 0) b) c)

abbrev pub end_of : ℕ → ℕ → ℤ
end_of b c = next_of (next_of (pos 0) b) c

-- a pair that must balance ends at 0
abbrev pub balanced_asks : ℕ → ℕ → List Ask
balanced_asks b c = ask (is_zero (end_of b c)) Unbalanced ∷ []

abbrev pub balanced_of : ℕ → ℕ → Result TmdsPair Refusal
balanced_of b c = answered (verdict (balanced_asks b c)) (Ok (record { 0 = word_of b c })) Err
