-- `clock::set_audio_clock_regeneration`: the same block four times.
use mathlib.Core.Path.{◌≡◌, ap₂, ◌∙◌}
use mathlib.Core.List.{[], ◌∷◌}
use Prim.Native.Nat.{ℕ, ◌/◌, ◌%◌}
use native.Mathlib.Omega.{arith}
use borrow.Author.Tests.{eq-eqb, lt-ltb}
use lib.ListN.{length}
use Rattle.laws.specs.Bytes.{low_first}
use Rattle.hdmi.specs.Parity.{with_parity}
use Rattle.hdmi.specs.Clock.{clock_bytes}
use Rattle.hdmi.proofs.Figures.{header_1_0_0}
use Rattle.blocks.proofs.Laying.{header_with, joined_packet}
use Rattle.clock.proofs.set_audio_clock_regeneration.Goals as goal

pub returns : goal.returns
returns c =
    let a = c.args in
    let cts : ℕ = a.cts in
    let n : ℕ = a.n in
    let cts_high : cts / 65536 % 256 ≡ cts / 65536 = omega arith in
    let n_high : n / 65536 % 256 ≡ n / 65536 = omega arith in
    let block : low_first 8 c.subpacket_word-block.result ≡ with_parity (clock_bytes cts n) =
    rw (c.to_be_bytes.ensures, c.to_be_bytes-2.ensures) at c.subpacket_word-block.ensures
    ∙ ap₂ (λ (x y : ℕ). with_parity (0 ∷ x ∷ cts / 256 % 256 ∷ cts % 256 ∷ y ∷ n / 256 % 256 ∷ n % 256 ∷ [])) cts_high n_high in
    let long = eq-eqb (length a.packet.now) 36 (omega arith) in
    let joined = rw long at c.join_words.ensures in
    rw (long, lt-ltb cts 1048576 (omega arith), lt-ltb n 1048576 (omega arith))
    (joined.0, joined.1 ∙ joined_packet (1 ∷ 0 ∷ 0 ∷ []) (λ s. clock_bytes cts n) (header_with (1 ∷ 0 ∷ 0 ∷ []) 0x4a header_1_0_0) block block block block)
