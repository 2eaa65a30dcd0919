-- A table that stands as the arms of a `match` has its rule at every key.
use mathlib.Core.Path.{◌≡◌, sym, ap, ◌∙◌}
use mathlib.Core.Bool.{Bool, true, false}
use mathlib.Core.Logic.{⊎_elim}
use Prim.Native.Nat.{ℕ, zero, suc, ◌+◌, ◌≤◌, ◌<◌}
use native.Mathlib.Nat.{eq-or-lt_of_le}
use native.Mathlib.Omega.{arith}
use Rattle.laws.specs.Arms.{NoKey, Arm}

-- a key is one of the keys
no_key : (x i n : ℕ) → i ≤ x → x < i + n → NoKey x i n → ⊥
no_key x i zero l h k = absurd (omega arith)
no_key x i (suc n) l h k =
    ⊎_elim (λ (e : x ≡ i + n). k.1 e) (λ (s : x < i + n). no_key x i n l s k.0) (eq-or-lt_of_le (omega arith))

pub armed : (rule key : ℕ → ℕ) (i n x r : ℕ) (b : Bool) → Arm b rule key i n x r → i ≤ x → x < i + n → r ≡ rule x
armed rule key i n x r false a l h = sym a.1 ∙ ap rule a.0
armed rule key i n x r true a l h = absurd (no_key x i n l h a)
