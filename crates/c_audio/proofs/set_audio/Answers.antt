-- `set_audio`: whole samples, at most eight, else the count as it came; then the builder's own answer.
use mathlib.Core.Path.{◌≡◌, refl, ap, ◌∙◌}
use mathlib.Core.Bool.{Bool, true, false}
use Prim.Native.Nat.{◌%◌, ◌<◌}
use native.Mathlib.Omega.{arith}
use lib.Dec.{eqb}
use lib.ListN.{length}
use mir.Facts.{to_z-of_z}
use borrow.Author.Tests.{eq-eqb, ne_eqb, lt-leb}
use Rattle.std.specs.Prelude.{Err}
use Rattle.refusal.specs.declared.Refusal.TheVariants.{Length}
use Rattle.refusal.specs.Verdict.{unless}
use Rattle.c_audio.specs.Samples.{samples_in, counted}
use Rattle.c_audio.proofs.Filling.{length_samples}
use Rattle.c_audio.proofs.set_audio.Goals as goal
use Rattle.c_audio.proofs.set_audio.Goals.{then-samples-ne0-via-then-samples-ne0, then-samples-ne0-via-else-samples-ne0+then-samples-gt16}

-- a wrong length is a wrong length, whichever buffer has it
either : (fits : Bool) → unless fits Length (Err Length) ≡ Err Length
either true = refl
either false = refl

pub returns-then-samples-ne0 : goal.returns-then-samples-ne0
returns-then-samples-ne0 c =
    let lent = c.args.samples.now in
    let told = rw (to_z-of_z c.ranges.count) at c.refused.ensures in
    elim c.then-samples-ne0.branch [
      | then-samples-ne0-via-then-samples-ne0 w ↦ rw (ne_eqb (length lent % 2) 0 w.if-samples-ne0.true) (record { answer = told; written = refl })
      | then-samples-ne0-via-else-samples-ne0+then-samples-gt16 w ↦
          let long : 8 < length (samples_in lent) = omega (arith, w.if-samples-gt16.true, length_samples lent) in
          rw (eq-eqb (length lent % 2) 0 w.if-samples-ne0.false, lt-leb (length (samples_in lent)) 8 long, either (eqb (length c.args.packet.now) 36))
          (record { answer = told; written = refl })
    ]

pub returns : goal.returns
returns c =
    let e = rw (to_z-of_z c.ranges.count) at c.set_samples.ensures in
    rw (eq-eqb (length c.args.samples.now % 2) 0 c.if-samples-ne0.false) (record { answer = c.answer_counted.ensures ∙ ap counted e.0; written = e.1 })
