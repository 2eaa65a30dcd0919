-- A test computed at each number below n holds at every number below n.
use mathlib.Core.Path.{◌≡◌, subst, sym}
use mathlib.Core.Logic.{⊎_elim}
use mathlib.Core.Bool.{Bool, true, ◌&&◌}
use Prim.Native.Nat.{ℕ, zero, suc, ◌<◌}
use native.Mathlib.Nat.{not-suc-le-zero, eq-or-lt_of_le, le_of_suc-le-suc}
use lib.Dec.{T, eqb, eqb→eq, ltb, ltb→lt}
use Rattle.laws.proofs.Truth.{and_left, and_right, same, same_eq}

abbrev pub all : (ℕ → Bool) → ℕ → Bool
all f zero = true
all f (suc n) = f n && all f n

pub below : (f : ℕ → Bool) (n : ℕ) → T (all f n) → (k : ℕ) → k < n → T (f k)
below f zero t k h = absurd (not-suc-le-zero h)
below f (suc n) t k h =
    ⊎_elim
    (λ (e : k ≡ n). subst (λ (m : ℕ). T (f m)) (sym e) (and_left (f n) (all f n) t))
    (λ (l : k < n). below f n (and_right (f n) (all f n) t) k l)
    (eq-or-lt_of_le (le_of_suc-le-suc h))

-- two functions that agree below n: into numbers, and into tests
pub agreed : (f g : ℕ → ℕ) (n : ℕ) → T (all (λ k. eqb (f k) (g k)) n) → (k : ℕ) → k < n → f k ≡ g k
agreed f g n t k h = eqb→eq (f k) (g k) (below (λ k. eqb (f k) (g k)) n t k h)

pub agreed_tests : (f g : ℕ → Bool) (n : ℕ) → T (all (λ k. same (f k) (g k)) n) → (k : ℕ) → k < n → f k ≡ g k
agreed_tests f g n t k h = same_eq (f k) (g k) (below (λ k. same (f k) (g k)) n t k h)

-- a function that stays below a bound
pub bounded : (f : ℕ → ℕ) (m n : ℕ) → T (all (λ k. ltb (f k) m) n) → (k : ℕ) → k < n → f k < m
bounded f m n t k h = ltb→lt (f k) m (below (λ k. ltb (f k) m) n t k h)
