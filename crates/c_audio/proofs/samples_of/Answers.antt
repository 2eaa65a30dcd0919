-- `samples_of` reads the samples one after the other.
use mathlib.Core.Path.{◌≡◌, refl, sym, ap, ◌∙◌}
use Prim.Native.Nat.{ℕ, ◌+◌, ◌*◌, ◌/◌, ◌<◌}
use native.Mathlib.Omega.{arith}
use lib.ListN.{length, take, drop, length-set}
use lib.Seq.{take_all}
use mir.Syntax.{w16}
use mir.Val.{to_z}
use mir.Facts.{to_z-of_z}
use Rattle.laws.specs.Bytes.{from_low}
use Rattle.c_audio.specs.Samples.{samples_in}
use Rattle.c_audio.proofs.Filling.{two_bytes, sample_of, length_samples, one_more}
use borrow.Author.Rules.{sfits_of}
use Rattle.c_audio.proofs.samples_of.Goals as goal

pub loop-i-preserved : goal.loop-i-preserved
loop-i-preserved c =
    let l = c.loop-i in
    let lent = c.args.lent.now in
    let long : length (samples_in lent) ≡ length lent / 2 = length_samples lent in
    let h : l.i < length lent / 2 = c.loop-i-test.true in
    let room : l.i < length l.samples = omega arith in
    let stands : l.i < length (samples_in lent) = omega arith in
    let bits : c.from_le_bytes.result ≡ from_low (take 2 (drop (2 * l.i) lent)) =
    omega (arith, c.from_le_bytes.ensures, two_bytes lent (2 * l.i) (2 * l.i + 1) refl (omega arith)) in
    let v = to_z-of_z {w = w16} (sfits_of c.signed_16.type_inv) ∙ c.signed_16.ensures ∙ ap (to_z w16) bits ∙ sym (sample_of lent l.i h) in
    (simp length-set l.invariant.0, one_more (samples_in lent) l.samples l.i _ stands room l.invariant.1 v)

pub returns : goal.returns
returns c =
    let l = c.loop-i in
    let lent = c.args.lent.now in
    let long : length (samples_in lent) ≡ length lent / 2 = length_samples lent in
    let n : l.i ≡ length lent / 2 = omega (arith, c.loop-i.auto.i-end, c.loop-i-test.false) in
    ap (λ (k : ℕ). take k l.samples) (sym n) ∙ l.invariant.1 ∙ take_all l.i (samples_in lent) (omega arith)
