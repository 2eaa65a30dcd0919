-- Tallies in parts: over two stretches, over one on which the test never changes, and from any start of a round.
use mathlib.Core.Path.{◌≡◌, refl, sym, ap, ap₂, ◌∙◌}
use mathlib.Core.Bool.{Bool, true, false, cond}
use Prim.Native.Nat.{ℕ, zero, suc, ◌+◌, ◌-◌, ◌%◌, ◌<◌}
use native.Mathlib.Nat.{mod-eq_of_lt, add-mod_left, add-zero}
use native.Mathlib.Omega.{arith}
use Rattle.laws.proofs.Counting.{more, tally}

pub tally_agree : (f g : ℕ → Bool) (n : ℕ) → ((k : ℕ) → k < n → f k ≡ g k) → tally f n ≡ tally g n
tally_agree f g zero h = refl
tally_agree f g (suc n) h = ap₂ more (h n (omega arith)) (tally_agree f g n (λ k l. h k (omega arith)))

more_add : (t : Bool) (a b : ℕ) → more t (a + b) ≡ a + more t b
more_add true a b = omega arith
more_add false a b = refl

pub tally_add : (f : ℕ → Bool) (a b : ℕ) → tally f (a + b) ≡ tally f a + tally (λ k. f (a + k)) b
tally_add f a zero = ap (tally f) (add-zero a) ∙ sym (add-zero (tally f a))
tally_add f a (suc b) =
    let e : a + suc b ≡ suc (a + b) = omega arith in
    ap (tally f) e ∙ ap (more (f (a + b))) (tally_add f a b) ∙ more_add (f (a + b)) (tally f a) (tally (λ k. f (a + k)) b)

-- a test that is the same at each number passes all or none
pub tally_const : (f : ℕ → Bool) (t : Bool) (n : ℕ) → ((k : ℕ) → k < n → f k ≡ t) → tally f n ≡ cond t n 0
tally_const f true zero h = refl
tally_const f false zero h = refl
tally_const f true (suc n) h = ap₂ more (h n (omega arith)) (tally_const f true n (λ k l. h k (omega arith)))
tally_const f false (suc n) h = ap₂ more (h n (omega arith)) (tally_const f false n (λ k l. h k (omega arith)))

-- a round of n from c on passes as many as a round from 0 on
pub tally_round : (f : ℕ → Bool) (c n : ℕ) → c < n → tally (λ k. f ((c + k) % n)) n ≡ tally f n
tally_round f c n h =
    let d : ℕ = n - c in
    let g : ℕ → Bool = λ k. f ((c + k) % n) in
    let whole : n ≡ d + c = omega arith in
    let late : tally g d ≡ tally (λ k. f (c + k)) d =
    tally_agree g (λ k. f (c + k)) d (λ k l. ap f (mod-eq_of_lt (omega arith))) in
    let again : (k : ℕ) → c + (d + k) ≡ n + k = λ k. omega arith in
    let early : tally (λ k. g (d + k)) c ≡ tally f c =
    tally_agree (λ k. g (d + k)) f c (λ k l. ap f (ap (λ (x : ℕ). x % n) (again k) ∙ add-mod_left n k ∙ mod-eq_of_lt (omega arith))) in
    let parts : tally g n ≡ tally g d + tally (λ k. g (d + k)) c = ap (tally g) whole ∙ tally_add g d c in
    let other : n ≡ c + d = omega arith in
    let joined : tally f n ≡ tally f c + tally (λ k. f (c + k)) d = ap (tally f) other ∙ tally_add f c d in
    omega (arith, parts, late, early, joined)
