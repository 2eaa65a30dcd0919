-- How a buffer is filled from its start: nothing yet, one more, and all of it.
use mathlib.Core.Path.{◌≡◌, refl, sym, ap₂, subst, ◌∙◌}
use mathlib.Core.List.{List, [], ◌∷◌, ◌++◌}
use Prim.Native.Nat.{ℕ, ◌+◌, ◌≤◌, ◌<◌}
use native.Mathlib.Numerals.{add-one}
use native.Mathlib.Omega.{arith}
use lib.ListN.{length, get_or, set, length-set}
use lib.Seq.{take-suc, take-suc-set, take_all}
use Rattle.laws.specs.Front.{Front}

pub front_none : (whole l : List ℕ) → length l ≡ length whole → Front whole 0 l
front_none whole l h = record { long = h; same = refl }

pub front_more : (whole l : List ℕ) (n x : ℕ) → n < length whole → Front whole n l → x ≡ get_or whole n 0 → Front whole (n + 1) (set l n x)
front_more whole l n x h f e =
    let at : n < length l = omega (arith, f.long) in
    subst (λ (m : ℕ). Front whole m (set l n x)) (sym (add-one n))
    (record {
      long = length-set l n x ∙ f.long;
      same = take-suc-set l n x at ∙ ap₂ (λ (a : List ℕ) (y : ℕ). a ++ (y ∷ [])) f.same e ∙ sym (take-suc whole n 0 h);
    })

pub front_all : (whole l : List ℕ) (n : ℕ) → length whole ≤ n → Front whole n l → l ≡ whole
front_all whole l n h f = sym (take_all n l (omega (arith, f.long))) ∙ f.same ∙ take_all n whole h
