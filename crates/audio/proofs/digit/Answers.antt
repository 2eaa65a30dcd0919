-- `audio::digit`: the table's rule at its place.
use mathlib.Core.List.{[]}
use native.Mathlib.Omega.{arith}
use Rattle.audio_words.specs.Frames.{place_rule}
use Rattle.audio_words.proofs.Grids.{grid_at}
use Rattle.audio.proofs.digit.Goals as goal

pub returns : goal.returns
returns c = grid_at place_rule 16 8 c.args.place c.args.x [] (omega arith) (omega arith)
