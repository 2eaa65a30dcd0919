-- Where `position` finds nothing, the test fails at every place.
use mathlib.Core.Path.{◌≡◌, refl}
use mathlib.Core.Bool.{Bool, true, false, cond, not}
use mathlib.Core.List.{List, [], ◌∷◌}
use Prim.Native.Nat.{ℕ, zero, suc, ◌+◌, ◌≤◌, ◌<◌}
use native.Mathlib.Omega.{arith}
use borrow.Author.Tests.{ltb-false}
use lib.Dec.{ltb}
use lib.ListN.{length, get_or}
use Rattle.std.specs.Prelude.{Some, None}
use Rattle.std.specs.List.{position, position_or_len}

module _ (p : ℕ → Bool) where
  past_by : (t : Bool) (x : ℕ) (xs : List ℕ) → p x ≡ t → (length xs ≤ position_or_len p xs → (k : ℕ) → k < length xs → p (get_or xs k 0) ≡ false)
      → suc (length xs) ≤ cond (not t) (1 + position_or_len p xs) 0 → (k : ℕ) → k < suc (length xs) → p (get_or (x ∷ xs) k 0) ≡ false
  past_by true x xs e r h k l = absurd (omega arith)
  past_by false x xs e r h zero l = e
  past_by false x xs e r h (suc k) l = r (omega arith) k (omega arith)

  past : (xs : List ℕ) → length xs ≤ position_or_len p xs → (k : ℕ) → k < length xs → p (get_or xs k 0) ≡ false
  past [] h k l = absurd (omega arith)
  past (x ∷ xs) h k l = past_by (p x) x xs refl (past xs) h k l

none_long : (b : Bool) (m n : ℕ) → ltb m n ≡ b → cond b (Some m) None ≡ None → n ≤ m
none_long true m n e h = let z : ◌≡◌ {A = ℕ} 0 1 = cc in absurd (omega arith)
none_long false m n e h = omega (arith, ltb-false m n e)

pub position-None : (p : ℕ → Bool) (xs : List ℕ) → position p xs ≡ None → (k : ℕ) → k < length xs → p (get_or xs k 0) ≡ false
position-None p xs h =
    past p xs (none_long (ltb (position_or_len p xs) (length xs)) (position_or_len p xs) (length xs) refl h)
