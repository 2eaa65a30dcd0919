-- Text on lists: the text of joined rows is the texts joined.
use mathlib.Core.Path.{◌≡◌, refl, ap, ◌∙◌}
use mathlib.Core.List.{List, [], ◌∷◌, ◌++◌, append_assoc}
use Prim.Native.Nat.{ℕ}
use Rattle.row_text.specs.Text.{line_of, text_of}

-- a row that goes in pieces is spelled in pieces
pub text_append : (xs ys : List ℕ) → text_of (xs ++ ys) ≡ text_of xs ++ text_of ys
text_append [] ys = refl
text_append (x ∷ xs) ys = ap (λ (l : List ℕ). line_of x ++ l) (text_append xs ys) ∙ simp append_assoc
