-- What the audio builder asks of its arguments, in the order of the refusals.
use Rattle.std.specs.Prelude.{List, [], ◌∷◌, ◌++◌, ℕ, ◌%◌, eqb, leb, ℤ, pos, length}
use Rattle.laws.specs.Range.{between}
use Rattle.refusal.specs.declared.Refusal.TheVariants.{Length, FrameCount}
use Rattle.refusal.specs.Verdict.{Ask, ask}
use Rattle.blocks.specs.Asks.{packet_asks}

-- no, one, two, three or four frames, left and right each; a count within the block
abbrev pub audio_asks : List ℕ → List ℤ → ℤ → List Ask
audio_asks p samples count =
    packet_asks p
    ++ (ask (leb (length samples) 8) Length ∷ ask (eqb (length samples % 2) 0) Length
    ∷ ask (between (pos 0) (pos 191) count) FrameCount ∷ [])
