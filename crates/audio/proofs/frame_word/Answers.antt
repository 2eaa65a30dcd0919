-- `audio::frame_word`: four digits of each sample, and what two zeros have.
use mathlib.Core.Path.{ap₂, ◌∙◌}
use Prim.Native.Nat.{ℕ}
use native.Mathlib.Omega.{arith}
use lib.Bits.{bit_xor}
use Rattle.laws.specs.Bytes.{low_first}
use Rattle.audio_words.proofs.Digits.{left_digits, right_digits, digits_added, frame-sealed}
use Rattle.audio.proofs.frame_word.Goals as goal

pub returns : goal.returns
returns c =
    let l : ℕ = c.args.l in
    let r : ℕ = c.args.r in
    let left = digits_added 8 51 left_digits l (omega arith) c.digit.ensures c.digit-2.ensures c.digit-3.ensures c.digit-4.ensures in
    let right = digits_added 32 55 right_digits r (omega arith) c.digit-5.ensures c.digit-6.ensures c.digit-7.ensures c.digit-8.ensures in
    ap₂ (λ (a b : ℕ). low_first 8 (bit_xor (bit_xor a b) 0x3399000000000000)) left right ∙ frame-sealed l r (omega arith) (omega arith)
