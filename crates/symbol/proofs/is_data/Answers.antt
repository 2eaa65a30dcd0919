-- `is_data` decides whether the encoder sends a number of ten bits.
use mathlib.Core.Path.{◌≡◌, ap, ◌∙◌}
use native.Mathlib.Nat.{mod-eq_of_lt}
use Rattle.dvi.specs.Encoder.{qm_of}
use Rattle.dvi.specs.Decoder.{byte_of}
use Rattle.charts.proofs.Decoding.{shape_is_data}
use Rattle.symbol.proofs.is_data.Goals as goal

pub returns : goal.returns
returns c =
    let s = c.args.symbol in
    let h = c.requires in
    let w : c.minimized-word.result ≡ qm_of (byte_of s) = c.minimized-word.ensures ∙ ap qm_of (c.byte_of.ensures ∙ ap byte_of (mod-eq_of_lt h)) in
    rw w (shape_is_data s h)
