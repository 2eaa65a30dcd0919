-- `packet::AviFields::from_numbers`: the first field that isn't listed is enough, and where there is none every one is.
use mathlib.Core.Path.{refl}
use Rattle.fields.specs.ActiveFormatAspectRatio.{active_numbers}
use Rattle.fields.specs.QuantizationRange.{quantization_numbers}
use Rattle.fields.specs.VideoCode.{code_numbers}
use Rattle.fields.proofs.Deciding.{none_of}
use Rattle.fields.proofs.Choices.{scan_in, pixel_in, color_in, picture_in, active_in, quantization_in, code_in}
use Rattle.packet.proofs.Fields.{passed_on}
use Rattle.packet.proofs.AviFields.from_numbers.Goals as goal

pub returns-in_err-try_from-5 : goal.returns-in_err-try_from-5
returns-in_err-try_from-5 c =
    let a = c.args in
    let no = c.in_err-try_from-5.ensures in
    passed_on a.s a.y a.c a.m a.r a.q a.v 4 _ _ c.from_residual-in_err-try_from-5.ensures.1 no.0 (none_of a.r active_numbers no.1)

pub returns-in_err-try_from-6 : goal.returns-in_err-try_from-6
returns-in_err-try_from-6 c =
    let a = c.args in
    let no = c.in_err-try_from-6.ensures in
    passed_on a.s a.y a.c a.m a.r a.q a.v 5 _ _ c.from_residual-in_err-try_from-6.ensures.1 no.0 (none_of a.q quantization_numbers no.1)

pub returns-in_err-try_from-7 : goal.returns-in_err-try_from-7
returns-in_err-try_from-7 c =
    let a = c.args in
    let no = c.in_err-try_from-7.ensures in
    passed_on a.s a.y a.c a.m a.r a.q a.v 6 _ _ c.from_residual-in_err-try_from-7.ensures.1 no.0 (none_of a.v code_numbers no.1)

pub returns : goal.returns
returns c =
    let a = c.args in
    let s = c.in_ok-try_from.ensures in
    let y = c.in_ok-try_from-2.ensures in
    let c_ = c.in_ok-try_from-3.ensures in
    let m = c.in_ok-try_from-4.ensures in
    let r = c.in_ok-try_from-5.ensures in
    let q = c.in_ok-try_from-6.ensures in
    let v = c.in_ok-try_from-7.ensures in (
      rw (scan_in a.s _ s, pixel_in a.y _ y, color_in a.c _ c_, picture_in a.m _ m, active_in a.r _ r, quantization_in a.q _ q, code_in a.v _ v) refl,
      rw (s, y, c_, m, r, q, v) refl,
    )
