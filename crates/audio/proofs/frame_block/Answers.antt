-- `audio::frame_block`: the word of both samples where there is a frame, else zeros.
use mathlib.Core.Path.{◌∙◌}
use Prim.Native.Nat.{◌+◌, ◌*◌}
use native.Mathlib.Omega.{arith}
use borrow.Author.Rules.{rules}
use borrow.Author.Tests.{lt-ltb, le-ltb}
use lib.IntN.{pos}
use lib.ListN.{get_or}
use Rattle.hdmi.specs.Audio.{frames, frame}
use Rattle.blocks.proofs.Laying.{zero_block}
use Rattle.audio.proofs.Samples.{bits_read}
use Rattle.audio.proofs.frame_block.Goals as goal

pub returns-then-i-samples : goal.returns-then-i-samples
unfolding frame
returns-then-i-samples c =
    let a = c.args in
    let l = c.cast_unsigned.ensures ∙ bits_read (get_or a.samples.now (2 * a.s) (pos 0)) (search rules) in
    let r = c.cast_unsigned-then-i-samples.ensures ∙ bits_read (get_or a.samples.now (2 * a.s + 1) (pos 0)) (search rules) in
    c.frame_word.ensures ∙ rw (lt-ltb a.s (frames a.samples.now) (omega arith), l, r)

pub returns-else-i-samples : goal.returns-else-i-samples
returns-else-i-samples c =
    let a = c.args in
    rw (le-ltb a.s (frames a.samples.now) (omega arith)) zero_block
