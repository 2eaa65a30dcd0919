-- `samples_of` reads the samples one after the other.
use mathlib.Core.Path.{◌≡◌}
use lib.ListN.{length, take}
use Rattle.c_audio.specs.Samples.{samples_in}
use Rattle.c_audio.proofs.samples_of.Given as goal

abbrev pub invariant-loop-i : goal.invariant-loop-i
invariant-loop-i l = (length l.samples ≡ 8) × (take l.i l.samples ≡ take l.i (samples_in l.lent))
