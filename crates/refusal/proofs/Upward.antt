-- How a verdict goes upward: an entry whose questions begin with a sub-entry's returns its refusal unchanged, and goes on where there is none.
use mathlib.Core.Path.{◌≡◌, refl, sym, ap, ◌∙◌}
use mathlib.Core.Bool.{Bool, true, false}
use mathlib.Core.List.{List, [], ◌∷◌, ◌++◌}
use Prim.Native.Nat.{ℕ}
use native.Mathlib.Omega.{arith}
use Rattle.refusal.specs.declared.Refusal.{Refusal}
use Rattle.std.specs.Prelude.{Ok, Err}
use Rattle.refusal.specs.Verdict.{Verdict, Ask, ask, unless, verdict, answered, kept}
use Rattle.refusal.proofs.Verdicts.{joined, stops, goes_on}

module _ {v : Verdict} (qs ps : List Ask) (e : v ≡ verdict qs) where
  pub returned : {r : Refusal} → v ≡ Err r → v ≡ verdict (qs ++ ps)
  returned g = g ∙ sym (joined qs ps ∙ stops (verdict ps) (sym e ∙ g))

  pub continued : v ≡ Ok tt → verdict ps ≡ verdict (qs ++ ps)
  continued g = sym (joined qs ps ∙ goes_on (sym e ∙ g))

-- one question
pub passes : {t : Bool} (r : Refusal) → t ≡ true → Ok tt ≡ verdict (ask t r ∷ [])
passes r e = ap (λ (t : Bool). verdict (ask t r ∷ [])) (sym e)

pub fails : {t : Bool} (r : Refusal) → t ≡ false → Err r ≡ verdict (ask t r ∷ [])
fails r e = ap (λ (t : Bool). verdict (ask t r ∷ [])) (sym e)

-- where nothing is refused, the first question holds, and nothing is refused of the rest
pub held : (t : Bool) (r : Refusal) (qs : List Ask) → verdict (ask t r ∷ qs) ≡ Ok tt → (t ≡ true) × (verdict qs ≡ Ok tt)
held true r qs e = (refl, e)
held false r qs e = let z : ◌≡◌ {A = ℕ} 0 1 = cc in absurd (omega arith)

pub passed : (q : Ask) (qs : List Ask) → verdict (q ∷ qs) ≡ Ok tt → (q.holds ≡ true) × (verdict qs ≡ Ok tt)
passed q qs = held q.holds q.otherwise qs

-- nothing is refused and yet something is
pub never : {v : Verdict} {r : Refusal} → v ≡ Ok tt → v ≡ Err r → ⊥
never e g = let z : ◌≡◌ {A = ℕ} 0 1 = cc in omega arith

-- ---- an entry's outcome, from the verdict v that its code took apart

module _ {A : Type 0} {v w : Verdict} (e : v ≡ w) where
  pub answers : (value : A) (refuse : Refusal → A) → v ≡ Ok tt → value ≡ answered w value refuse
  answers value refuse g = ap (λ (u : Verdict). answered u value refuse) (sym g ∙ e)

  pub hands_on : {r : Refusal} (value : A) (refuse : Refusal → A) → v ≡ Err r → refuse r ≡ answered w value refuse
  hands_on value refuse g = ap (λ (u : Verdict). answered u value refuse) (sym g ∙ e)

  pub writes : (new old : A) → v ≡ Ok tt → new ≡ kept w new old
  writes new old g = ap (λ (u : Verdict). kept u new old) (sym g ∙ e)

  pub leaves : {r : Refusal} (new old : A) → v ≡ Err r → old ≡ kept w new old
  leaves new old g = ap (λ (u : Verdict). kept u new old) (sym g ∙ e)

-- two lists of questions of which nothing is refused
pub both_fine : (qs ps : List Ask) → verdict (qs ++ ps) ≡ Ok tt → (verdict qs ≡ Ok tt) × (verdict ps ≡ Ok tt)
both_fine [] ps e = (refl, e)
both_fine (q ∷ qs) ps e =
    let h = passed q (qs ++ ps) e in
    let r = both_fine qs ps h.1 in
    (ap (λ (t : Bool). unless t q.otherwise (verdict qs)) h.0 ∙ r.0, r.1)
