-- A table that a rule makes has the rule at each of its places. A const table is found equal to it entry by entry, and is written once, in the code.
use mathlib.Core.Path.{◌≡◌, ◌∙◌, ap, sym}
use mathlib.Core.List.{List, [], ◌∷◌}
use Prim.Native.Nat.{ℕ, zero, suc, ◌+◌, ◌<◌}
use native.Mathlib.Nat.{add-zero, zero-add, add-suc, suc-add, le_of_suc-le-suc, not-suc-le-zero}
use lib.ListN.{get_or}

-- n entries, the rule at i first
abbrev pub made : (ℕ → ℕ) → ℕ → ℕ → List ℕ
made f i zero = []
made f i (suc n) = f i ∷ made f (suc i) n

made_from : (f : ℕ → ℕ) (n i k : ℕ) → k < n → get_or (made f i n) k 0 ≡ f (i + k)
made_from f zero i k h = absurd (not-suc-le-zero h)
made_from f (suc n) i zero h = ap f (sym (add-zero i))
made_from f (suc n) i (suc k) h = made_from f n (suc i) k (le_of_suc-le-suc h) ∙ ap f (suc-add i k ∙ sym (add-suc i k))

pub made_at : (f : ℕ → ℕ) (n k : ℕ) → k < n → get_or (made f 0 n) k 0 ≡ f k
made_at f n k h = made_from f n 0 k h ∙ ap f (zero-add k)
