-- A table of rows that a rule makes has the rule at each of its places.
use mathlib.Core.Path.{◌≡◌, ap, sym, ◌∙◌}
use mathlib.Core.List.{List, [], ◌∷◌}
use Prim.Native.Nat.{ℕ, zero, suc, ◌+◌, ◌<◌}
use native.Mathlib.Nat.{add-zero, zero-add, add-suc, suc-add, le_of_suc-le-suc, not-suc-le-zero}
use lib.ListN.{get_or}
use Rattle.laws.proofs.Tables.{made, made_at}

-- n rows of m entries each, the rule's row i first
abbrev pub grid : (ℕ → ℕ → ℕ) → ℕ → ℕ → ℕ → List (List ℕ)
grid f m i zero = []
grid f m i (suc n) = made (f i) 0 m ∷ grid f m (suc i) n

row_from : (f : ℕ → ℕ → ℕ) (m n i k : ℕ) (d : List ℕ) → k < n → get_or (grid f m i n) k d ≡ made (f (i + k)) 0 m
row_from f m zero i k d h = absurd (not-suc-le-zero h)
row_from f m (suc n) i zero d h = ap (λ (r : ℕ). made (f r) 0 m) (sym (add-zero i))
row_from f m (suc n) i (suc k) d h =
    row_from f m n (suc i) k d (le_of_suc-le-suc h) ∙ ap (λ (r : ℕ). made (f r) 0 m) (suc-add i k ∙ sym (add-suc i k))

pub grid_at : (f : ℕ → ℕ → ℕ) (m n k j : ℕ) (d : List ℕ) → k < n → j < m → get_or (get_or (grid f m 0 n) k d) j 0 ≡ f k j
grid_at f m n k j d h l =
    ap (λ (row : List ℕ). get_or row j 0) (row_from f m n 0 k d h) ∙ made_at (f (0 + k)) m j l ∙ ap (λ (r : ℕ). f r j) (zero-add k)
