-- The question about many places, by what the search finds.
use mathlib.Core.Path.{◌≡◌, refl, sym, ◌∙◌}
use mathlib.Core.Bool.{Bool, true, false}
use mathlib.Core.List.{[], ◌∷◌}
use Prim.Native.Nat.{ℕ, ◌+◌, ◌≤◌, ◌<◌}
use native.Mathlib.Decide.{dec_lt}
use native.Mathlib.Omega.{arith}
use borrow.Author.Tests.{eq-eqb, ne_eqb, eqb-true, eqb-false}
use Rattle.std.specs.Prelude.{Ok, Err}
use Rattle.laws.specs.Search.{first}
use Rattle.laws.proofs.Searching.{before, none, found, first_le, first_ge}
use Rattle.refusal.specs.declared.Refusal.{Refusal}
use Rattle.refusal.specs.Verdict.{verdict}
use Rattle.island_reader.specs.Read.{nowhere}

module _ (f : ℕ → Bool) (i n : ℕ) (refusal : ℕ → Refusal) where
  pub refused_at : (k : ℕ) → first f i n ≡ k → k < i + n → verdict (nowhere f i n refusal ∷ []) ≡ Err (refusal k)
  unfolding nowhere
  refused_at k e h = simp (e, ne_eqb k (i + n) (λ d. omega arith))

  pub found_none : first f i n ≡ i + n → verdict (nowhere f i n refusal ∷ []) ≡ Ok tt
  unfolding nowhere
  found_none e = simp (e, eq-eqb (i + n) (i + n) refl)

  -- the question holds exactly when the test fails at every place
  pub holds_means : (nowhere f i n refusal).holds ≡ true → (k : ℕ) → i ≤ k → k < i + n → f k ≡ false
  unfolding nowhere
  holds_means h k l u = before f i n k l (omega (arith, eqb-true (first f i n) (i + n) h))

  pub holds_where : ((k : ℕ) → i ≤ k → k < i + n → f k ≡ false) → (nowhere f i n refusal).holds ≡ true
  unfolding nowhere
  holds_where h = eq-eqb (first f i n) (i + n) (none f i n h)

  -- where it fails, the test holds somewhere, and the refusal is at that place
  pub record Met : Type 0 where
    pub at : ℕ
    pub from : i ≤ at
    pub below : at < i + n
    pub met : f at ≡ true
    pub says : (nowhere f i n refusal).otherwise ≡ refusal at

  fails_lt : (nowhere f i n refusal).holds ≡ false → first f i n < i + n
  unfolding nowhere
  fails_lt h = omega (arith, first_le f i n, eqb-false (first f i n) (i + n) h)

  pub fails_means : (nowhere f i n refusal).holds ≡ false → Met
  unfolding nowhere
  fails_means h = record { at = first f i n; from = first_ge f i n; below = fails_lt h; met = found f i n (fails_lt h); says = refl }

  -- a place where the test holds makes it fail, at that place or a lower one
  pub record Lower (k : ℕ) : Type 0 where
    pub fails : (nowhere f i n refusal).holds ≡ false
    pub place : ℕ
    pub lower : place ≤ k
    pub says : (nowhere f i n refusal).otherwise ≡ refusal place

  not_past : (k : ℕ) → i ≤ k → f k ≡ true → Dec (k < first f i n) → first f i n ≤ k
  not_past k l t (yes h) =
      let e : true ≡ false = sym t ∙ before f i n k l h in
      let z : ◌≡◌ {A = ℕ} 0 1 = cc in
      absurd (omega arith)
  not_past k l t (no h) = omega (arith, h)

  -- the lowest place where the test holds
  lowest_by : (k : ℕ) → k < i + n → ((j : ℕ) → i ≤ j → j < k → f j ≡ false) → first f i n ≤ k → Dec (first f i n < k) → first f i n ≡ k
  lowest_by k u none m (yes h) =
      let e : true ≡ false = sym (found f i n (omega arith)) ∙ none (first f i n) (first_ge f i n) h in
      let z : ◌≡◌ {A = ℕ} 0 1 = cc in
      absurd (omega arith)
  lowest_by k u none m (no h) = omega (arith, h)

  pub refused_first : (k : ℕ) → i ≤ k → k < i + n → f k ≡ true → ((j : ℕ) → i ≤ j → j < k → f j ≡ false) → verdict (nowhere f i n refusal ∷ []) ≡ Err (refusal k)
  refused_first k l u t none =
      refused_at k (lowest_by k u none (not_past k l t (dec_lt k (first f i n))) (dec_lt (first f i n) k)) u

  pub refused_none : ((j : ℕ) → i ≤ j → j < i + n → f j ≡ false) → verdict (nowhere f i n refusal ∷ []) ≡ Ok tt
  refused_none h = found_none (none f i n h)

  pub fails_at : (k : ℕ) → i ≤ k → k < i + n → f k ≡ true → Lower k
  unfolding nowhere
  fails_at k l u t =
      let m : first f i n ≤ k = not_past k l t (dec_lt k (first f i n)) in
      record { fails = ne_eqb (first f i n) (i + n) (λ e. omega arith); place = first f i n; lower = m; says = refl }
