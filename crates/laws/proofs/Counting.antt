-- A test that decides a property counts it.
use mathlib.Core.Path.{◌≡◌, refl}
use mathlib.Core.Bool.{Bool, true, false}
use Prim.Native.Nat.{ℕ, zero, suc, ◌<◌}
use native.Mathlib.Omega.{arith}
use Rattle.laws.specs.Count.{Count, start, has, lacks}

-- `t` says whether one more is counted
abbrev pub more : Bool → ℕ → ℕ
more true k = suc k
more false k = k

-- how many numbers below n pass f
abbrev pub tally : (ℕ → Bool) → ℕ → ℕ
tally f zero = 0
tally f (suc n) = more (f n) (tally f n)

module _ (P : ℕ → Type 0) where
  one_more : (t : Bool) (n k : ℕ) → (t ≡ true → P n) → (t ≡ false → P n → ⊥) → Count P n k → Count P (suc n) (more t k)
  one_more true n k y z c = has (y refl) c
  one_more false n k y z c = lacks (z refl) c

  pub tallied : (f : ℕ → Bool) (n : ℕ) → ((k : ℕ) → k < n → f k ≡ true → P k) → ((k : ℕ) → k < n → f k ≡ false → P k → ⊥) → Count P n (tally f n)
  tallied f zero y z = start
  tallied f (suc n) y z =
      one_more (f n) n (tally f n) (y n (omega arith)) (z n (omega arith))
      (tallied f n (λ k h. y k (omega arith)) (λ k h. z k (omega arith)))
