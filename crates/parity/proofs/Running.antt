-- The register run through a block, byte by byte, ends at the block's parity.
use mathlib.Core.Path.{◌≡◌, refl, ◌∙◌}
use mathlib.Core.List.{List, [], ◌∷◌}
use Prim.Native.Nat.{ℕ, suc, ◌<◌}
use native.Mathlib.Omega.{arith}
use lib.Bits.{bit_xor, xor_lt}
use lib.ListN.{get_or}
use Rattle.std.specs.List.{fold}
use Rattle.hdmi.specs.Parity.{register, sent, parity}
use Rattle.hdmi.proofs.Parity.{eight, eight_lt, register_next}

-- the register v goes on by the byte x
abbrev pub onward : ℕ → ℕ → ℕ
onward v x = eight (bit_xor x v)

run_from : (v : ℕ) (xs : List ℕ) → v < 256 → ((i : ℕ) → get_or xs i 0 < 256) → fold onward v xs ≡ register v (sent xs)
unfolding sent
run_from v [] h b = refl
run_from v (x ∷ xs) h b =
    run_from (onward v x) xs (eight_lt (bit_xor x v) (xor_lt 8 x v (b 0) h)) (λ i. b (suc i)) ∙ register_next v (x ∷ xs) 0 (omega arith) h (b 0)

pub run_through : (block : List ℕ) → ((i : ℕ) → get_or block i 0 < 256) → fold onward 0 block ≡ parity block
unfolding parity
run_through block b = run_from 0 block (omega arith) b
