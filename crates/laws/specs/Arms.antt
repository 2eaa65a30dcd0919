-- A table that stands as the arms of a `match`. Each answer tells its own key, so that an arm is right when the key that the answer tells is the one
-- it stands at, and the rule at that key is the answer: both are found by computing.
use Rattle.std.specs.Prelude.{◌≡◌, Bool, true, false, ℕ, zero, suc, ◌+◌}

-- x is none of the n keys from i on
abbrev pub NoKey : ℕ → ℕ → ℕ → Type 0
NoKey x i zero = Unit {0}
NoKey x i (suc n) = NoKey x i n × (x ≡ i + n → ⊥)

-- what the answer r to x is, for n keys from i on: the rule's, unless it is the answer to what is no key
abbrev pub Arm : Bool → (rule key : ℕ → ℕ) → (i n x r : ℕ) → Type 0
Arm false rule key i n x r = (key r ≡ x) × (rule (key r) ≡ r)
Arm true rule key i n x r = NoKey x i n
