-- `parity::word_parity`: the four factors in turn are the division.
use mathlib.Core.Path.{◌≡◌, ap, ◌∙◌}
use Prim.Native.Nat.{ℕ}
use native.Mathlib.Nat.{mod-lt}
use native.Mathlib.Omega.{arith}
use lib.Bits.{bit_xor, xor_lt}
use lib.Pow.{pow_pos}
use Rattle.parity.specs.Word.{shl, spread_by}
use Rattle.parity.proofs.Division.{last_spread, above, divided, divided_parity, above_lt}
use Rattle.parity.proofs.word_parity.Goals as goal

pub overflow_cast-result : goal.overflow_cast-result
overflow_cast-result c =
    let x = c.spread-c.result in
    let y = c.spread.result in
    let q = xor_lt 64 (bit_xor y (shl 48 x)) (shl 56 x) (xor_lt 64 y (shl 48 x) (omega (arith, c.spread.type_inv)) (mod-lt _ (pow_pos 64))) (mod-lt _ (pow_pos 64)) in
    record { fits = above_lt (bit_xor (bit_xor y (shl 48 x)) (shl 56 x)) q }

pub returns : goal.returns
unfolding divided last_spread above
returns c =
    let w = c.args.w in
    let three : c.spread-c.result ≡ spread_by 4 8 32 (spread_by 2 4 16 (spread_by 1 2 8 w)) =
    c.spread-c.ensures ∙ ap (spread_by 4 8 32) (c.spread-b.ensures ∙ ap (spread_by 2 4 16) c.spread-a.ensures) in
    ap (λ (y : ℕ). above (bit_xor (bit_xor y (shl 48 c.spread-c.result)) (shl 56 c.spread-c.result))) c.spread.ensures
    ∙ ap (λ (x : ℕ). above (last_spread x)) three
    ∙ divided_parity w (omega arith)
