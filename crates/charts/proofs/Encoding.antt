-- The encoder's chart in the machine's arithmetic: the intermediate as a carry-less product, computed at all 256 bytes, and whether it goes out
-- complemented, computed at every discrepancy and every number of nine bits.
use mathlib.Core.Path.{◌≡◌}
use mathlib.Core.Bool.{Bool, cond, ◌&&◌, ◌||◌, beq}
use Prim.Native.Nat.{ℕ, ◌*◌, ◌/◌, ◌%◌, ◌<◌}
use lib.Bits.{bit_and, bit_xor}
use lib.Count.{ones, ones_in}
use lib.Dec.{T, ltb, eqb}
use lib.IntN.{ℤ, pos, ◌*ℤ◌}
use lib.Signed.{lt_z}
use mir.Syntax.{w32}
use mir.Val.{to_z, of_z}
use Rattle.laws.proofs.Finite.{agreed}
use Rattle.laws.proofs.Integers.{over-test}
use Rattle.dvi.specs.Encoder.{qm_of, complemented}
use Rattle.dvi.specs.Symbol.{in_range}

-- ---- the intermediate

-- the product with one factor of 255, in 32 bits
abbrev times : ℕ → ℕ → ℕ
times shift n = bit_xor ((n * shift) % 4294967296) n

abbrev pub low : ℕ → ℕ
low b = bit_and (times 16 (times 4 (times 2 b))) 255

abbrev pub xnor : ℕ → Bool
xnor b = ltb 4 (ones b) || (eqb (ones b) 4 && eqb (bit_and (low b) 1) 0)

pub chain_is_qm : (b : ℕ) → b < 256 → cond (xnor b) (bit_xor (low b) 0xaa) (bit_xor (low b) 0x100) ≡ qm_of b
unfolding ones ones_in qm_of
chain_is_qm b h = agreed (λ b. cond (xnor b) (bit_xor (low b) 0xaa) (bit_xor (low b) 0x100)) qm_of 256 tt b h

-- ---- whether it is complemented

abbrev pub level : ℤ → ℕ → Bool
level d w = eqb (of_z w32 d) 0 || eqb (ones (bit_and w 255)) 4

abbrev pub same_side : ℤ → ℕ → Bool
same_side d w = beq (lt_z (pos 0) (to_z w32 (of_z w32 d))) (ltb 4 (ones (bit_and w 255)))

pub choice_is_chart : (d : ℤ) → T (in_range d) → (w : ℕ) → w < 512 → cond (level d w) (eqb (w / 256) 0) (same_side d w) ≡ complemented (pos 2 *ℤ d) w
unfolding ones ones_in complemented
choice_is_chart d h w l =
    over-test 3 4 512 d h w l (λ d w. cond (level d w) (eqb (w / 256) 0) (same_side d w)) (λ d w. complemented (pos 2 *ℤ d) w) tt
