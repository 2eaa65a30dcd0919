-- The search: how it goes on, what it finds and what it passes over.
use mathlib.Core.Path.{◌≡◌, refl, ap, ◌∙◌}
use mathlib.Core.Bool.{Bool, true, false, cond}
use Prim.Native.Nat.{ℕ, zero, suc, ◌+◌, ◌-◌, ◌≤◌, ◌<◌}
use native.Mathlib.Decide.{ℕ_discrete}
use native.Mathlib.Numerals.{add-one}
use native.Mathlib.Omega.{arith}
use Rattle.laws.specs.Search.{first}

-- a loop that searches up to n, at i
module _ (f : ℕ → Bool) (i n : ℕ) where
  pub stop : i < n → f i ≡ true → first f i (n - i) ≡ i
  stop h e = let d : n - i ≡ suc (n - suc i) = omega arith in rw (d, e)

  pub go_on : i < n → f i ≡ false → first f i (n - i) ≡ first f (i + 1) (n - (i + 1))
  go_on h e = let d : n - i ≡ suc (n - suc i) = omega arith in rw (add-one, d, e)

  pub end : n ≤ i → first f i (n - i) ≡ i
  end h = let d : n - i ≡ 0 = omega arith in rw d

module _ (f : ℕ → Bool) where
  le_by : (t : Bool) (i n : ℕ) → first f (suc i) n ≤ suc i + n → cond t i (first f (suc i) n) ≤ i + suc n
  le_by true i n h = omega arith
  le_by false i n h = omega arith

  pub first_le : (i n : ℕ) → first f i n ≤ i + n
  first_le i zero = omega arith
  first_le i (suc n) = le_by (f i) i n (first_le (suc i) n)

  ge_by : (t : Bool) (i n : ℕ) → suc i ≤ first f (suc i) n → i ≤ cond t i (first f (suc i) n)
  ge_by true i n h = omega arith
  ge_by false i n h = omega arith

  pub first_ge : (i n : ℕ) → i ≤ first f i n
  first_ge i zero = omega arith
  first_ge i (suc n) = ge_by (f i) i n (first_ge (suc i) n)

  before_by : (t : Bool) (i n k : ℕ) → f i ≡ t → ((k : ℕ) → suc i ≤ k → k < first f (suc i) n → f k ≡ false)
      → i ≤ k → k < cond t i (first f (suc i) n) → Dec (k ≡ i) → f k ≡ false
  before_by true i n k e r l h d = absurd (omega arith)
  before_by false i n k e r l h (yes d) = ap f d ∙ e
  before_by false i n k e r l h (no d) = r k (omega (arith, d)) h

  -- the test fails at all that is passed over
  pub before : (i n k : ℕ) → i ≤ k → k < first f i n → f k ≡ false
  before i zero k l h = absurd (omega arith)
  before i (suc n) k l h = before_by (f i) i n k refl (before (suc i) n) l h (ℕ_discrete k i)

  found_by : (t : Bool) (i n : ℕ) → f i ≡ t → (first f (suc i) n < suc i + n → f (first f (suc i) n) ≡ true)
      → cond t i (first f (suc i) n) < i + suc n → f (cond t i (first f (suc i) n)) ≡ true
  found_by true i n e r h = e
  found_by false i n e r h = r (omega arith)

  -- and holds where the search ends early
  pub found : (i n : ℕ) → first f i n < i + n → f (first f i n) ≡ true
  found i zero h = absurd (omega arith)
  found i (suc n) h = found_by (f i) i n refl (found (suc i) n) h

  pub none : (i n : ℕ) → ((k : ℕ) → i ≤ k → k < i + n → f k ≡ false) → first f i n ≡ i + n
  none i zero h = omega arith
  none i (suc n) h =
      let e : f i ≡ false = h i (omega arith) (omega arith) in
      rw e (none (suc i) n (λ k l u. h k (omega arith) (omega arith)) ∙ omega arith)

-- two tests that agree on the range find the same
pub first_agree : (f g : ℕ → Bool) (i n : ℕ) → ((k : ℕ) → i ≤ k → k < i + n → f k ≡ g k) → first f i n ≡ first g i n
first_agree f g i zero h = refl
first_agree f g i (suc n) h =
    let r = first_agree f g (suc i) n (λ k l u. h k (omega arith) (omega arith)) in
    let e : f i ≡ g i = h i (omega arith) (omega arith) in
    rw (e, r)
