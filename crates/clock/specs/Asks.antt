-- What the clock's builder asks of its arguments, in the order of the refusals.
use Rattle.std.specs.Prelude.{List, [], ◌∷◌, ◌++◌, ℕ, ◌^◌, ltb}
use Rattle.refusal.specs.declared.Refusal.TheVariants.{ClockValue}
use Rattle.refusal.specs.Verdict.{Ask, ask}
use Rattle.blocks.specs.Asks.{packet_asks}

-- CTS and N have 20 bits
abbrev pub clock_asks : List ℕ → ℕ → ℕ → List Ask
clock_asks p cts n = packet_asks p ++ (ask (ltb cts (2 ^ 20)) ClockValue ∷ ask (ltb n (2 ^ 20)) ClockValue ∷ [])
