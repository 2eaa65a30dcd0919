-- The one search that every reader uses.
use Rattle.std.specs.Prelude.{Bool, cond, ℕ, zero, suc}

-- the lowest of the n numbers from i on at which f holds, and i + n where it holds at none
abbrev pub first : (ℕ → Bool) → ℕ → ℕ → ℕ
first f i zero = i
first f i (suc n) = cond (f i) i (first f (suc i) n)
