-- From a test that computes to what it says, and back.
use mathlib.Core.Path.{◌≡◌, refl}
use mathlib.Core.Bool.{Bool, true, false, not, ◌&&◌, ◌||◌}
use mathlib.Core.Logic.{◌⊎◌, inl, inr}
use lib.Dec.{T}

pub T_true : {b : Bool} → T b → b ≡ true
T_true {b = true} t = refl
T_true {b = false} t = absurd t

pub true_T : {b : Bool} → b ≡ true → T b
true_T e = rw e tt

pub T_false : {b : Bool} → T (not b) → b ≡ false
T_false {b = true} t = absurd t
T_false {b = false} t = refl

-- a test that fails passes nobody
pub false_T : {b : Bool} → b ≡ false → T b → ⊥
false_T e t = rw e at t

pub and_left : (a b : Bool) → T (a && b) → T a
and_left true b t = tt
and_left false b t = t

pub and_right : (a b : Bool) → T (a && b) → T b
and_right true b t = t
and_right false b t = absurd t

pub and_both : (a b : Bool) → T a → T b → T (a && b)
and_both true b s t = t
and_both false b s t = s

pub or_either : (a b : Bool) → T (a || b) → T a ⊎ T b
or_either true b t = inl tt
or_either false b t = inr t

-- two tests that agree
abbrev pub same : Bool → Bool → Bool
same true b = b
same false b = not b

pub same_eq : (a b : Bool) → T (same a b) → a ≡ b
same_eq true true t = refl
same_eq true false t = absurd t
same_eq false true t = absurd t
same_eq false false t = refl

-- a test that another one entails
abbrev pub entails : Bool → Bool → Bool
entails true b = b
entails false b = true

pub entailed : (a b : Bool) → T (entails a b) → T a → T b
entailed true b t s = t
entailed false b t s = absurd s
