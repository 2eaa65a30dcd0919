-- Finite checks over a range of whole numbers that has 0 in it, and over such a range and the numbers below a bound.
use mathlib.Core.Path.{◌≡◌, ap}
use mathlib.Core.Bool.{Bool, true, false, ◌&&◌}
use Prim.Native.Nat.{ℕ, suc, ◌<◌}
use native.Mathlib.Omega.{arith}
use lib.Dec.{T, leb, eqb, leb→le, eqb→eq, ltb, ltb→lt}
use lib.IntN.{ℤ, pos, negsuc}
use Rattle.laws.specs.Range.{between}
use Rattle.laws.proofs.Truth.{and_left, and_right, same, same_eq}
use Rattle.laws.proofs.Finite.{all, below}

-- the test at each number from -(m + 1) to n
abbrev pub span : ℕ → ℕ → (ℤ → Bool) → Bool
span m n f = all (λ k. f (pos k)) (suc n) && all (λ k. f (negsuc k)) (suc m)

pub each : (m n : ℕ) (f : ℤ → Bool) → T (span m n f) → (z : ℤ) → T (between (negsuc m) (pos n) z) → T (f z)
each m n f t (pos k) h =
    below (λ k. f (pos k)) (suc n) (and_left (all (λ k. f (pos k)) (suc n)) (all (λ k. f (negsuc k)) (suc m)) t) k
    (omega (arith, leb→le k n h))
each m n f t (negsuc k) h =
    below (λ k. f (negsuc k)) (suc m) (and_right (all (λ k. f (pos k)) (suc n)) (all (λ k. f (negsuc k)) (suc m)) t) k
    (omega (arith, leb→le k m (and_left (leb k m) true h)))

-- whole numbers compared
abbrev pub eq_z : ℤ → ℤ → Bool
eq_z (pos a) (pos b) = eqb a b
eq_z (pos a) (negsuc b) = false
eq_z (negsuc a) (pos b) = false
eq_z (negsuc a) (negsuc b) = eqb a b

pub eq_z→eq : (a b : ℤ) → T (eq_z a b) → a ≡ b
eq_z→eq (pos a) (pos b) t = ap pos (eqb→eq a b t)
eq_z→eq (pos a) (negsuc b) t = absurd t
eq_z→eq (negsuc a) (pos b) t = absurd t
eq_z→eq (negsuc a) (negsuc b) t = ap negsuc (eqb→eq a b t)

-- a test at each z of the range and each b below l
module _ (m n l : ℕ) where
  abbrev pub grid : (ℤ → ℕ → Bool) → Bool
  grid f = span m n (λ z. all (f z) l)

  module _ (z : ℤ) (h : T (between (negsuc m) (pos n) z)) (b : ℕ) (k : b < l) where
    pub over : (f : ℤ → ℕ → Bool) → T (grid f) → T (f z b)
    over f t = below (f z) l (each m n (λ z. all (f z) l) t z h) b k

    pub over-number : (f g : ℤ → ℕ → ℕ) → T (grid (λ z b. eqb (f z b) (g z b))) → f z b ≡ g z b
    over-number f g t = eqb→eq (f z b) (g z b) (over (λ z b. eqb (f z b) (g z b)) t)

    pub over-integer : (f g : ℤ → ℕ → ℤ) → T (grid (λ z b. eq_z (f z b) (g z b))) → f z b ≡ g z b
    over-integer f g t = eq_z→eq (f z b) (g z b) (over (λ z b. eq_z (f z b) (g z b)) t)

    pub over-test : (f g : ℤ → ℕ → Bool) → T (grid (λ z b. same (f z b) (g z b))) → f z b ≡ g z b
    over-test f g t = same_eq (f z b) (g z b) (over (λ z b. same (f z b) (g z b)) t)

    pub over-bound : (f : ℤ → ℕ → ℕ) (s : ℕ) → T (grid (λ z b. ltb (f z b) s)) → f z b < s
    over-bound f s t = ltb→lt (f z b) s (over (λ z b. ltb (f z b) s) t)
