-- Advance after advance: after as many as a frame has lines the counter is back, and on the way it has met each state as often as that state's vertical
-- number says, from whichever line it started.
use mathlib.Core.Path.{◌≡◌, refl, sym, ap, subst, ◌∙◌}
use mathlib.Core.Bool.{Bool, true, false}
use Prim.Native.Nat.{ℕ, zero, suc, ◌+◌, ◌%◌, ◌<◌}
use native.Mathlib.Nat.{mod-lt, mod-eq_of_lt, mod-add-mod, add-mod_right, add-zero}
use native.Mathlib.Omega.{arith}
use borrow.Author.Tests.{lt-ltb}
use Rattle.std.specs.Prelude.{Ok, Err}
use Rattle.laws.specs.Count.{Count}
use Rattle.laws.proofs.Counting.{tallied}
use Rattle.laws.proofs.Tallies.{tally_round}
use Rattle.refusal.specs.declared.Refusal.TheVariants.{LineCounter}
use Rattle.refusal.specs.Verdict.{verdict, handed_back}
use Rattle.timing.specs.declared.DviTiming.{DviTiming}
use Rattle.timing.specs.declared.DviTimingLineState.{DviTimingLineState}
use Rattle.timing.specs.LineState.{lines_in, state_at}
use Rattle.timing.specs.Timing.{total, timing_asks}
use Rattle.refusal.proofs.Upward.{continued, passes, answers}
use Rattle.counter.specs.declared.DviTimingState.{DviTimingState}
use Rattle.counter.specs.Counter.{below_total, counter_asks, counter_at, line_after, advance_of, v_state_of}
use Rattle.counter.proofs.States.{same_state, same_state_eq, eq_same_state, frame_tally}

-- n calls of `advance`, one after the other, none refused, from s to u
pub data Advances (t : DviTiming) : ℕ → DviTimingState → DviTimingState → Type 0 where
  none : {s : DviTimingState} → Advances t zero s s
  next : {n : ℕ} {s u w : DviTimingState} → Advances t n s u → advance_of t u ≡ Ok w → Advances t (suc n) s w

-- after k advances from s the counter is in state x
abbrev pub Meets : DviTiming → DviTimingState → DviTimingLineState → ℕ → Type 0
Meets t s x k = (u : DviTimingState) × Advances t k s u × (v_state_of t u ≡ Ok x)

-- the advances leave no choice
pub one_way : {t : DviTiming} {n : ℕ} {s u w : DviTimingState} → Advances t n s u → Advances t n s w → u ≡ w
one_way none none = refl
one_way (next a e) (next b g) = cc (one_way a b)

module _ (t : DviTiming) (ok : verdict (timing_asks t) ≡ Ok tt) where
  pub fine : (c : ℕ) → c < total t → verdict (counter_asks t c) ≡ Ok tt
  fine c h = sym (passes LineCounter (lt-ltb c (total t) h) ∙ continued (timing_asks t) (below_total t c) (sym ok) refl)

  module _ (c : ℕ) (below : c < total t) where
    on_line : (n : ℕ) → (c + n) % total t < total t
    on_line n = mod-lt (c + n) (omega arith)

    step : (n : ℕ) → advance_of t (counter_at ((c + n) % total t)) ≡ Ok (counter_at ((c + suc n) % total t))
    step n =
        let e : c + n + 1 ≡ c + suc n = omega arith in
        sym (answers refl (Ok (counter_at (line_after t ((c + n) % total t)))) (λ r. Err (handed_back (counter_at ((c + n) % total t)) r)) (fine ((c + n) % total t) (on_line n)))
        ∙ ap (λ (x : ℕ). Ok (counter_at x)) (mod-add-mod (c + n) (total t) 1 ∙ ap (λ (x : ℕ). x % total t) e)

    pub after : (n : ℕ) → Advances t n (counter_at c) (counter_at ((c + n) % total t))
    after zero = subst (λ (x : ℕ). Advances t zero (counter_at c) (counter_at x)) (sym (ap (λ (x : ℕ). x % total t) (add-zero c) ∙ mod-eq_of_lt below)) none
    after (suc n) = next (after n) (step n)

    -- after a whole frame the counter is back
    pub back : Advances t (total t) (counter_at c) (counter_at c)
    back = subst (λ (x : ℕ). Advances t (total t) (counter_at c) (counter_at x)) (add-mod_right c (total t) ∙ mod-eq_of_lt below) (after (total t))

    state-after : (n : ℕ) → v_state_of t (counter_at ((c + n) % total t)) ≡ Ok (state_at t ((c + n) % total t))
    state-after n =
        sym (answers refl (Ok (state_at t ((c + n) % total t))) (λ r. Err (handed_back (counter_at ((c + n) % total t)) r)) (fine ((c + n) % total t) (on_line n)))

    module _ (x : DviTimingLineState) where
      meets : (k : ℕ) → same_state (state_at t ((c + k) % total t)) x ≡ true → Meets t (counter_at c) x k
      meets k e = (counter_at ((c + k) % total t), after k, state-after k ∙ ap Ok (same_state_eq _ x e))

      misses : (k : ℕ) → same_state (state_at t ((c + k) % total t)) x ≡ false → Meets t (counter_at c) x k → ⊥
      misses k e m =
          let there : v_state_of t (counter_at ((c + k) % total t)) ≡ Ok x = ap (v_state_of t) (one_way (after k) m.1) ∙ m.2 in
          let same : state_at t ((c + k) % total t) ≡ x = cc (state-after k) in
          let z : true ≡ false = sym (eq_same_state same) ∙ e in
          let one : ◌≡◌ {A = ℕ} 0 1 = cc in
          omega arith

      -- and among that many advances each state is met as often as its vertical number says
      pub each-state : Count (Meets t (counter_at c) x) (total t) (lines_in t x)
      each-state =
          let f : ℕ → Bool = λ k. same_state (state_at t ((c + k) % total t)) x in
          subst (Count (Meets t (counter_at c) x) (total t)) (tally_round (λ y. same_state (state_at t y) x) c (total t) below ∙ frame_tally t x)
          (tallied (Meets t (counter_at c) x) f (total t) (λ k h. meets k) (λ k h. misses k))
