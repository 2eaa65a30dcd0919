-- `audio::header`: the bytes of the word that the table holds.
use mathlib.Core.Path.{ap, ◌∙◌}
use mathlib.Core.List.{[], ◌∷◌}
use Prim.Native.Nat.{ℕ, ◌+◌, ◌-◌, ◌*◌, ◌^◌}
use native.Mathlib.Omega.{arith}
use mir.Syntax.{w32}
use Rattle.laws.specs.Bytes.{low_first}
use Rattle.hdmi.specs.Parity.{with_parity}
use Rattle.blocks.proofs.Laying.{to_le_bytes-low_first}
use Rattle.audio_words.specs.Frames.{header_rule}
use Rattle.audio_words.proofs.Grids.{grid_at}
use Rattle.audio_words.proofs.Headers.{header_bytes}
use Rattle.audio.proofs.Counts.{start_within}
use Rattle.audio.proofs.header.Goals as goal

pub returns : goal.returns
returns c =
    let n : ℕ = c.args.n in
    let s : ℕ = c.min.result in
    c.to_le_bytes.ensures ∙ to_le_bytes-low_first w32 _
    ∙ ap (low_first 4) (grid_at (λ n s. header_rule (5 * n + s)) 5 5 n s [] (omega arith) (omega arith))
    ∙ header_bytes n s (omega arith) (omega arith)
    ∙ ap (λ (b : ℕ). with_parity (2 ∷ (2 ^ n - 1) ∷ b ∷ [])) (start_within n c.args.count s c.min.ensures)
