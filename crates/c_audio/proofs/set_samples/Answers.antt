-- `set_samples` hands the samples that it read to the builder.
use mathlib.Core.Path.{sym, ap, ◌∙◌}
use lib.ListN.{length}
use mir.Facts.{to_z-of_z}
use Rattle.c_audio.proofs.Filling.{length_samples}
use Rattle.c_audio.proofs.set_samples.Goals as goal

pub slice_bounds-set_audio-end : goal.slice_bounds-set_audio-end
slice_bounds-set_audio-end c = sym (ap length c.samples_of-samples.ensures ∙ length_samples c.args.lent.now)

pub returns : goal.returns
returns c = rw (c.samples_of-samples.ensures, to_z-of_z c.ranges.count) at c.set_audio.ensures
