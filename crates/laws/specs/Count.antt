-- How many numbers have a property, said without a program that counts them.
use Rattle.std.specs.Prelude.{ℕ, zero, suc}

-- `Count P n k`: of the numbers below n exactly k have the property P
pub data Count (P : ℕ → Type 0) : ℕ → ℕ → Type 0 where
  start : Count P zero zero
  has : {n k : ℕ} → P n → Count P n k → Count P (suc n) (suc k)
  lacks : {n k : ℕ} → (P n → ⊥) → Count P n k → Count P (suc n) k
