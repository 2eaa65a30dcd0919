-- Whether a number is one of a list, and what a decision on a number answers.
use Rattle.refusal.specs.declared.Refusal.{Refusal}
use Rattle.refusal.specs.declared.Refusal.TheVariants.{Unlisted}
use Rattle.std.specs.Prelude.{◌≡◌, Bool, true, false, cond, List, [], ◌∷◌, ℕ, eqb, Result, Ok, Err}

-- as a test
abbrev pub one_of : ℕ → List ℕ → Bool
one_of n [] = false
one_of n (x ∷ xs) = cond (eqb n x) true (one_of n xs)

-- it is none of them
abbrev pub NoneOf : ℕ → List ℕ → Type 0
NoneOf n [] = Unit
NoneOf n (x ∷ xs) = (n ≡ x → ⊥) × NoneOf n xs

-- for a field F of which each value has a number, one of those listed: the value with this number, or a refusal where none is listed
abbrev pub decided : {F : Type 0} → (F → ℕ) → List ℕ → ℕ → Result F Refusal → Type 0
decided number numbers n (Ok x) = number x ≡ n
decided number numbers n (Err r) = (r ≡ Unlisted) × NoneOf n numbers
