-- A decision from numbers, for any field: the number of a field is listed, a number that is refused isn't, and no second answer fits.
use mathlib.Core.Path.{◌≡◌, refl, sym, ap, ◌∙◌}
use mathlib.Core.Bool.{true, false}
use mathlib.Core.List.{List, [], ◌∷◌}
use Prim.Native.Nat.{ℕ}
use borrow.Author.Tests.{ne_eqb}
use Rattle.std.specs.Prelude.{Result, Ok, Err}
use Rattle.refusal.specs.declared.Refusal.{Refusal}
use Rattle.fields.specs.Numbers.{one_of, NoneOf, decided}

pub none_of : (n : ℕ) (xs : List ℕ) → NoneOf n xs → one_of n xs ≡ false
none_of n [] h = refl
none_of n (x ∷ xs) h = rw (ne_eqb n x h.0) (none_of n xs h.1)

-- F is a field with its numbers, and `back` goes from a number to the field
module _ {F : Type 0} (number : F → ℕ) (numbers : List ℕ) (back : ℕ → F) (known : (x : F) → (one_of (number x) numbers ≡ true) × (back (number x) ≡ x)) where
  pub one_of_lem : (n : ℕ) (x : F) → number x ≡ n → one_of n numbers ≡ true
  one_of_lem n x e = ap (λ (m : ℕ). one_of m numbers) (sym e) ∙ (known x).0

  pub same_field : (n : ℕ) (x y : F) → number x ≡ n → number y ≡ n → x ≡ y
  same_field n x y ex ey = sym (known x).1 ∙ ap back (ex ∙ sym ey) ∙ (known y).1

  clash : {A : Type 0} (n : ℕ) (x : F) → number x ≡ n → NoneOf n numbers → A
  clash n x e h = let t = one_of_lem n x e in let f = none_of n numbers h in cc

  -- no second answer fits
  pub one_answer : (n : ℕ) (c d : Result F Refusal) → decided number numbers n c → decided number numbers n d → c ≡ d
  one_answer n (Ok x) (Ok y) ex ey = ap Ok (same_field n x y ex ey)
  one_answer n (Ok x) (Err r) ex h = clash n x ex h.1
  one_answer n (Err r) (Ok x) h ex = clash n x ex h.1
  one_answer n (Err r) (Err s) hr hs = ap Err (hr.0 ∙ sym hs.0)
