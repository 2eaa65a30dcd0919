-- What a verdict says: refused exactly when a question fails, with a refusal that applies and that no lower one goes before; and how verdicts
-- are joined.
use mathlib.Core.Path.{◌≡◌, refl, sym, ap}
use mathlib.Core.Bool.{Bool, true, false}
use mathlib.Core.List.{List, [], ◌∷◌, ◌++◌}
use Prim.Native.Nat.{ℕ, ◌≤◌}
use native.Mathlib.Omega.{arith}
use lib.Dec.{T, leb, leb→le}
use Rattle.laws.proofs.Truth.{and_left, and_right}
use Rattle.refusal.specs.declared.Refusal.{Refusal}
use Rattle.std.specs.Prelude.{Ok, Err}
use Rattle.refusal.specs.Refusal.{number_of}
use Rattle.refusal.specs.Verdict.{Verdict, Ask, unless, verdict, rising, and_then}

-- a question of the list fails, with the refusal r
pub data Fails : List Ask → Refusal → Type 0 where
  here : {q : Ask} {qs : List Ask} → q.holds ≡ false → Fails (q ∷ qs) q.otherwise
  later : {q : Ask} {qs : List Ask} {r : Refusal} → Fails qs r → Fails (q ∷ qs) r

-- ---- a refusal is one that applies

applies_by : (t : Bool) (q : Ask) (qs : List Ask) (r : Refusal) → q.holds ≡ t → (verdict qs ≡ Err r → Fails qs r)
    → unless t q.otherwise (verdict qs) ≡ Err r → Fails (q ∷ qs) r
applies_by true q qs r e f h = later (f h)
applies_by false q qs r e f h = let same : q.otherwise ≡ r = cc in rw (sym same) (here e)

pub applies : (qs : List Ask) (r : Refusal) → verdict qs ≡ Err r → Fails qs r
applies [] r h = let z : ◌≡◌ {A = ℕ} 0 1 = cc in absurd (omega arith)
applies (q ∷ qs) r h = applies_by q.holds q qs r refl (applies qs r) h

-- ---- and it is given whenever one applies

refused_by : (t : Bool) (q : Ask) (qs : List Ask) → ((r : Refusal) × (verdict qs ≡ Err r))
    → (r : Refusal) × (unless t q.otherwise (verdict qs) ≡ Err r)
refused_by true q qs f = f
refused_by false q qs f = (q.otherwise, refl)

pub refused : {qs : List Ask} {r : Refusal} → Fails qs r → (s : Refusal) × (verdict qs ≡ Err s)
refused (here {q} {qs} e) = (q.otherwise, simp e)
refused (later {q} {qs} f) = refused_by q.holds q qs (refused f)

pub fine : {qs : List Ask} {r : Refusal} → verdict qs ≡ Ok tt → Fails qs r → ⊥
fine h f =
    let g = (refused f).1 in
    let z : ◌≡◌ {A = ℕ} 0 1 = cc in
    omega arith

-- a fine verdict, taken apart: the first question holds, and the rest are fine too
pub holds_first : (t : Bool) (r : Refusal) (v : Verdict) → unless t r v ≡ Ok tt → T t
holds_first true r v h = tt
holds_first false r v h = let z : ◌≡◌ {A = ℕ} 0 1 = cc in absurd (omega arith)

pub fine_rest : (t : Bool) (r : Refusal) (v : Verdict) → unless t r v ≡ Ok tt → v ≡ Ok tt
fine_rest true r v h = h
fine_rest false r v h = let z : ◌≡◌ {A = ℕ} 0 1 = cc in absurd (omega arith)

-- ---- and none that applies has a lower number

rising_rest : (q : Ask) (qs : List Ask) → T (rising (q ∷ qs)) → T (rising qs)
rising_rest q [] t = tt
rising_rest q (p ∷ qs) t = and_right (leb (number_of q.otherwise) (number_of p.otherwise)) (rising (p ∷ qs)) t

rising_step : (q p : Ask) (qs : List Ask) → T (rising (q ∷ p ∷ qs)) → number_of q.otherwise ≤ number_of p.otherwise
rising_step q p qs t =
    leb→le _ _ (and_left (leb (number_of q.otherwise) (number_of p.otherwise)) (rising (p ∷ qs)) t)

earlier : {qs : List Ask} {r : Refusal} → Fails qs r → (q : Ask) → T (rising (q ∷ qs)) → number_of q.otherwise ≤ number_of r
earlier (here {q = p} {qs} e) q t = rising_step q p qs t
earlier (later {q = p} {qs} f) q t =
    let a = rising_step q p qs t in
    let b = earlier f p (rising_rest q (p ∷ qs) t) in
    omega arith

lowest_by : (t : Bool) (q : Ask) (qs : List Ask) (r s : Refusal) → unless t q.otherwise (verdict qs) ≡ Err r
    → (verdict qs ≡ Err r → number_of r ≤ number_of s) → number_of q.otherwise ≤ number_of s → number_of r ≤ number_of s
lowest_by true q qs r s h f g = f h
lowest_by false q qs r s h f g = let same : q.otherwise ≡ r = cc in rw same at g

pub lowest : {qs : List Ask} {r s : Refusal} → T (rising qs) → verdict qs ≡ Err r → Fails qs s → number_of r ≤ number_of s
lowest {r} t h (here {q} {qs} e) =
    let g : Err q.otherwise ≡ Err r = simp e at h in
    let same : q.otherwise ≡ r = cc in
    rw same (omega arith)
lowest {r} {s} t h (later {q} {qs} f) =
    lowest_by q.holds q qs r s h (λ g. lowest (rising_rest q qs t) g f) (earlier f q t)

-- ---- verdicts joined: an entry that asks a sub-entry first, and goes on where that has nothing to refuse

joined_by : (t : Bool) (r : Refusal) (v w u : Verdict) → u ≡ and_then v w → unless t r u ≡ and_then (unless t r v) w
joined_by true r v w u e = e
joined_by false r v w u e = refl

pub joined : (qs ps : List Ask) → verdict (qs ++ ps) ≡ and_then (verdict qs) (verdict ps)
joined [] ps = refl
joined (q ∷ qs) ps = joined_by q.holds q.otherwise (verdict qs) (verdict ps) (verdict (qs ++ ps)) (joined qs ps)

-- the sub-entry's refusal goes upward unchanged
pub stops : {v : Verdict} {r : Refusal} (w : Verdict) → v ≡ Err r → and_then v w ≡ Err r
stops w e = ap (λ (x : Verdict). and_then x w) e

-- and where it is fine the rest decides
pub goes_on : {v w : Verdict} → v ≡ Ok tt → and_then v w ≡ w
goes_on {w} e = ap (λ (x : Verdict). and_then x w) e
