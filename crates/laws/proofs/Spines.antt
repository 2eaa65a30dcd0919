-- A list of known length is the list of its elements. With these spelled out, whatever is read and stored at known places computes.
use mathlib.Core.Path.{◌≡◌, refl, sym, ap, ◌∙◌, subst}
use mathlib.Core.List.{List}
use Prim.Native.Nat.{ℕ, zero, suc}
use lib.ListN.{length, get_or}
use lib.Seq.{ext_get_or}
use Rattle.laws.proofs.Tables.{made, made_at}

pub length_made : (f : ℕ → ℕ) (i n : ℕ) → length (made f i n) ≡ n
length_made f i zero = refl
length_made f i (suc n) = ap suc (length_made f (suc i) n)

-- the first n elements of l, spelled out
abbrev pub spine : ℕ → List ℕ → List ℕ
spine n l = made (λ k. get_or l k 0) 0 n

pub spine_is : (n : ℕ) (l : List ℕ) → length l ≡ n → spine n l ≡ l
spine_is n l e =
    let same : length (spine n l) ≡ n = length_made (λ k. get_or l k 0) 0 n in
    ext_get_or 0 (spine n l) l (same ∙ sym e) (λ i h. made_at (λ k. get_or l k 0) n i (rw same at h))

-- what holds of the elements spelled out holds of the list
pub on_spine : (n : ℕ) (P : List ℕ → Type 0) (l : List ℕ) → length l ≡ n → P (spine n l) → P l
on_spine n P l e p = subst P (spine_is n l e) p
