-- `audio::set_audio`: where nothing is refused, the header and four words joined are the packet, and the next count follows.
use mathlib.Core.Path.{◌≡◌, ap, ◌∙◌}
use mathlib.Core.Bool.{true}
use mathlib.Core.List.{[], ◌∷◌}
use Prim.Native.Nat.{ℕ, ◌+◌, ◌-◌, ◌%◌, ◌^◌}
use native.Mathlib.Omega.{arith}
use borrow.Author.Rules.{rules}
use borrow.Author.Tests.{eq-eqb, le-leb}
use lib.IntN.{pos, nat_abs}
use lib.ListN.{length}
use mir.Syntax.{w32}
use mir.Facts.{to_z_pos}
use Rattle.std.specs.Prelude.{Ok}
use Rattle.std.proofs.Common.{tests}
use Rattle.laws.specs.Range.{between}
use Rattle.hdmi.specs.Parity.{with_parity}
use Rattle.hdmi.specs.Audio.{frames, frame_bytes, block_start, count_after}
use Rattle.blocks.proofs.Laying.{joined_words}
use Rattle.audio.proofs.Counts.{within}
use Rattle.audio.proofs.set_audio.Goals as goal

pub returns : goal.returns
returns c =
    let a = c.args in
    let n : ℕ = frames a.samples.now in
    let inside : between (pos 0) (pos 191) a.count ≡ true = search (rules, tests) in
    let w = within a.count inside in
    let before : c.cast_unsigned-before.result ≡ nat_abs a.count = c.cast_unsigned-before.ensures ∙ w.bits in
    let long = eq-eqb (length a.packet.now) 36 (omega arith) in
    let header : c.header.result ≡ with_parity (2 ∷ (2 ^ n - 1) ∷ block_start n (nat_abs a.count) ∷ []) =
    c.header.ensures ∙ ap (λ (b : ℕ). with_parity (2 ∷ (2 ^ n - 1) ∷ block_start n b ∷ [])) before in
    let joined = rw long at c.join_words.ensures in
    rw (long, le-leb (length a.samples.now) 8 (omega arith), eq-eqb (length a.samples.now % 2) 0 (omega arith), inside) (
      ap Ok (to_z_pos w32 {n = (c.cast_unsigned-before.result + 192 - n) % 192} (omega arith) ∙ ap (λ (b : ℕ). pos (count_after n b)) before),
      joined.1 ∙ joined_words (2 ∷ (2 ^ n - 1) ∷ block_start n (nat_abs a.count) ∷ []) (frame_bytes a.samples.now) c.header.result c.frame_words.result header c.frame_words.ensures.0 c.frame_words.ensures.1,
    )
