-- What the line entries ask of their arguments.
use Rattle.std.specs.Prelude.{◌≡◌, List, [], ◌∷◌, ◌++◌, ℕ, eqb, ltb, Result, Ok, Err}
use Rattle.refusal.specs.declared.Refusal.TheVariants.{Length, Unlisted}
use Rattle.refusal.specs.declared.Refusal.{Refusal}
use Rattle.refusal.specs.Verdict.{Ask, ask, Verdict}
use Rattle.timing.specs.declared.DviTimingLineState.{DviTimingLineState}
use Rattle.timing.specs.LineState.{state_number}
use Rattle.timing.specs.declared.DviTiming.{DviTiming}
use Rattle.timing.specs.Timing.{timing_asks}

abbrev pub long_as : ℕ → ℕ → List Ask
long_as have want = ask (eqb have want) Length ∷ []

abbrev pub known_state : ℕ → List Ask
known_state state = ask (ltb state 4) Unlisted ∷ []

-- a line of `want` words, of which `have` were lent
abbrev pub line_asks : DviTiming → ℕ → ℕ → List Ask
line_asks t have want = long_as have want ++ timing_asks t

-- the line state and the timing of an island line
abbrev pub state_asks : DviTiming → ℕ → List Ask
state_asks t state = known_state state ++ timing_asks t

-- an island line: its words, the packet's bytes, the line state
abbrev pub island_asks : DviTiming → ℕ → ℕ → ℕ → List Ask
island_asks t have bytes state = long_as have 56 ++ long_as bytes 36 ++ state_asks t state

-- what is said of those two: the line state with the number handed in, where nothing is refused
abbrev pub Ready : Verdict → ℕ → Result DviTimingLineState Refusal → Type 0
Ready v n (Ok s) = (v ≡ Ok tt) × (state_number s ≡ n)
Ready v n (Err r) = v ≡ Err r
