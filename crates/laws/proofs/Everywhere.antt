-- The other way round from Finite: a test that holds at each number below n passes all of them.
use mathlib.Core.Bool.{Bool}
use Prim.Native.Nat.{ℕ, zero, suc, ◌<◌}
use native.Mathlib.Omega.{arith}
use lib.Dec.{T}
use Rattle.laws.proofs.Truth.{and_both}
use Rattle.laws.proofs.Finite.{all}

pub each_all : (f : ℕ → Bool) (n : ℕ) → ((k : ℕ) → k < n → T (f k)) → T (all f n)
each_all f zero h = tt
each_all f (suc n) h = and_both (f n) (all f n) (h n (omega arith)) (each_all f n (λ k l. h k (omega arith)))
