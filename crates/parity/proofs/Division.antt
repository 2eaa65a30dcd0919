-- The division that takes a word's parity is linear, as the parity is, and the two agree on the 64 powers of two: so they agree.
use mathlib.Core.Path.{◌≡◌, refl}
use Prim.Native.Nat.{ℕ, ◌/◌, ◌^◌, ◌<◌}
use lib.Bits.{bit_xor, xor_lt}
use lib.Pow.{shr_lt}
use native.Mathlib.Omega.{arith}
use Rattle.laws.specs.Bytes.{low_first}
use Rattle.laws.proofs.Finite.{agreed}
use Rattle.laws.proofs.Linear.{Linear, linear_sum, linear_after, linear_shl, linear_shr, linear_ext}
use Rattle.hdmi.specs.Parity.{parity, sent}
use Rattle.hdmi.proofs.Parity.{parity_linear}
use Rattle.parity.specs.Word.{shl, spread_by}

-- the last factor
unfoldable pub last_spread : ℕ → ℕ
last_spread w = bit_xor (bit_xor (spread_by 8 24 32 w) (shl 48 w)) (shl 56 w)

-- what lies above the word in quotient times generator
unfoldable pub above : ℕ → ℕ
above q = bit_xor (bit_xor (q / 2 ^ 56) (q / 2 ^ 62)) (q / 2 ^ 63)

unfoldable pub divided : ℕ → ℕ
divided w = above (last_spread (spread_by 4 8 32 (spread_by 2 4 16 (spread_by 1 2 8 w))))

-- ---- it is linear

plus_shl : (f : ℕ → ℕ) (k : ℕ) → Linear f → Linear (λ w. bit_xor (f w) (shl k w))
plus_shl f k l = linear_sum f (shl k) l (linear_shl 64 k)

spread_linear : (i j k : ℕ) → Linear (spread_by i j k)
spread_linear i j k =
    plus_shl (λ w. bit_xor (bit_xor w (shl i w)) (shl j w)) k
    (plus_shl (λ w. bit_xor w (shl i w)) j (plus_shl (λ w. w) i (λ a b. refl)))

last_linear : Linear last_spread
unfolding last_spread
last_linear =
    plus_shl (λ w. bit_xor (spread_by 8 24 32 w) (shl 48 w)) 56 (plus_shl (spread_by 8 24 32) 48 (spread_linear 8 24 32))

above_linear : Linear above
unfolding above
above_linear =
    linear_sum (λ q. bit_xor (q / 2 ^ 56) (q / 2 ^ 62)) (λ q. q / 2 ^ 63)
    (linear_sum (λ q. q / 2 ^ 56) (λ q. q / 2 ^ 62) (linear_shr 56) (linear_shr 62)) (linear_shr 63)

divided_linear : Linear divided
unfolding divided
divided_linear =
    linear_after (λ w. last_spread (spread_by 4 8 32 (spread_by 2 4 16 (spread_by 1 2 8 w)))) above
    (linear_after (λ w. spread_by 4 8 32 (spread_by 2 4 16 (spread_by 1 2 8 w))) last_spread
    (linear_after (λ w. spread_by 2 4 16 (spread_by 1 2 8 w)) (spread_by 4 8 32)
    (linear_after (spread_by 1 2 8) (spread_by 2 4 16) (spread_linear 1 2 8) (spread_linear 2 4 16)) (spread_linear 4 8 32)) last_linear) above_linear

-- ---- and right

on_powers : (k : ℕ) → k < 64 → divided (2 ^ k) ≡ parity (low_first 8 (2 ^ k))
unfolding divided last_spread above parity sent
on_powers k h = agreed (λ k. divided (2 ^ k)) (λ k. parity (low_first 8 (2 ^ k))) 64 tt k h

pub divided_parity : (w : ℕ) → w < 2 ^ 64 → divided w ≡ parity (low_first 8 w)
divided_parity w h = linear_ext divided (λ w. parity (low_first 8 w)) divided_linear (parity_linear 8) 64 on_powers w h

pub above_lt : (q : ℕ) → q < 2 ^ 64 → bit_xor (bit_xor (q / 2 ^ 56) (q / 2 ^ 62)) (q / 2 ^ 63) < 2 ^ 8
above_lt q h =
    xor_lt 8 (bit_xor (q / 2 ^ 56) (q / 2 ^ 62)) (q / 2 ^ 63) (xor_lt 8 (q / 2 ^ 56) (q / 2 ^ 62) (shr_lt 8 56 h) (omega arith)) (omega arith)
