-- Over the lines of a frame each state stands as often as its vertical number says.
use mathlib.Core.Path.{◌≡◌, refl, ap, ap₂, ◌∙◌}
use mathlib.Core.Bool.{Bool, true, cond}
use Prim.Native.Nat.{ℕ, ◌+◌, ◌<◌, ◌≤◌}
use native.Mathlib.Omega.{arith}
use lib.Dec.{eqb}
use borrow.Author.Tests.{lt-ltb, le-ltb, eq-eqb}
use Rattle.laws.proofs.Counting.{tally}
use Rattle.laws.proofs.Tallies.{tally_add, tally_const}
use Rattle.timing.specs.declared.DviTiming.{DviTiming}
use Rattle.timing.specs.declared.DviTimingLineState.{DviTimingLineState}
use Rattle.timing.specs.declared.DviTimingLineState.TheVariants.{FrontPorch, Sync, BackPorch, Active}
use Rattle.timing.specs.LineState.{state_number, lines_in, state_at}
use Rattle.timing.specs.Timing.{inactive, total}

-- two states are the same
abbrev pub same_state : DviTimingLineState → DviTimingLineState → Bool
same_state a b = eqb (state_number a) (state_number b)

pub same_state_eq : (a b : DviTimingLineState) → same_state a b ≡ true → a ≡ b
same_state_eq FrontPorch FrontPorch e = refl
same_state_eq FrontPorch Sync e = cc
same_state_eq FrontPorch BackPorch e = cc
same_state_eq FrontPorch Active e = cc
same_state_eq Sync FrontPorch e = cc
same_state_eq Sync Sync e = refl
same_state_eq Sync BackPorch e = cc
same_state_eq Sync Active e = cc
same_state_eq BackPorch FrontPorch e = cc
same_state_eq BackPorch Sync e = cc
same_state_eq BackPorch BackPorch e = refl
same_state_eq BackPorch Active e = cc
same_state_eq Active FrontPorch e = cc
same_state_eq Active Sync e = cc
same_state_eq Active BackPorch e = cc
same_state_eq Active Active e = refl

pub eq_same_state : {a b : DviTimingLineState} → a ≡ b → same_state a b ≡ true
eq_same_state {a} {b} e = eq-eqb (state_number a) (state_number b) (ap state_number e)

module _ (t : DviTiming) where
  front_lines : (k : ℕ) → k < t.v_front_porch → state_at t k ≡ FrontPorch
  unfolding state_at
  front_lines k h = simp (lt-ltb _ _ h)

  sync_lines : (k : ℕ) → k < t.v_sync_width → state_at t (t.v_front_porch + k) ≡ Sync
  unfolding state_at
  sync_lines k h =
      let c : ℕ = t.v_front_porch + k in
      let a : t.v_front_porch ≤ c = omega arith in
      let b : c < t.v_front_porch + t.v_sync_width = omega arith in
      simp (le-ltb _ _ a, lt-ltb _ _ b)

  back_lines : (k : ℕ) → k < t.v_back_porch → state_at t (t.v_front_porch + t.v_sync_width + k) ≡ BackPorch
  unfolding state_at
  back_lines k h =
      let c : ℕ = t.v_front_porch + t.v_sync_width + k in
      let a : t.v_front_porch ≤ c = omega arith in
      let b : t.v_front_porch + t.v_sync_width ≤ c = omega arith in
      let d : c < inactive t = omega arith in
      simp (le-ltb _ _ a, le-ltb _ _ b, lt-ltb _ _ d)

  active_lines : (k : ℕ) → k < t.v_active_lines → state_at t (inactive t + k) ≡ Active
  unfolding state_at
  active_lines k h =
      let c : ℕ = inactive t + k in
      let a : t.v_front_porch ≤ c = omega arith in
      let b : t.v_front_porch + t.v_sync_width ≤ c = omega arith in
      let d : inactive t ≤ c = omega arith in
      simp (le-ltb _ _ a, le-ltb _ _ b, le-ltb _ _ d)

  -- the four stretches, each with one state
  stretches : (s : DviTimingLineState) → tally (λ k. same_state (state_at t k) s) (total t)
      ≡ cond (same_state FrontPorch s) t.v_front_porch 0 + cond (same_state Sync s) t.v_sync_width 0
      + cond (same_state BackPorch s) t.v_back_porch 0 + cond (same_state Active s) t.v_active_lines 0
  stretches s =
      let f : ℕ → Bool = λ k. same_state (state_at t k) s in
      let vf : ℕ = t.v_front_porch in
      let vs : ℕ = t.v_sync_width in
      let vb : ℕ = t.v_back_porch in
      let va : ℕ = t.v_active_lines in
      let front = tally_const f (same_state FrontPorch s) vf (λ k h. ap (λ (x : DviTimingLineState). same_state x s) (front_lines k h)) in
      let sync = tally_const (λ k. f (vf + k)) (same_state Sync s) vs (λ k h. ap (λ (x : DviTimingLineState). same_state x s) (sync_lines k h)) in
      let back = tally_const (λ k. f (vf + vs + k)) (same_state BackPorch s) vb (λ k h. ap (λ (x : DviTimingLineState). same_state x s) (back_lines k h)) in
      let active = tally_const (λ k. f (inactive t + k)) (same_state Active s) va (λ k h. ap (λ (x : DviTimingLineState). same_state x s) (active_lines k h)) in
      tally_add f (inactive t) va
      ∙ ap₂ ◌+◌ (tally_add f (vf + vs) vb ∙ ap₂ ◌+◌ (tally_add f vf vs ∙ ap₂ ◌+◌ front sync) back) active

  pub frame_tally : (s : DviTimingLineState) → tally (λ k. same_state (state_at t k) s) (total t) ≡ lines_in t s
  frame_tally FrontPorch = stretches FrontPorch ∙ omega arith
  frame_tally Sync = stretches Sync ∙ omega arith
  frame_tally BackPorch = stretches BackPorch ∙ omega arith
  frame_tally Active = stretches Active ∙ omega arith
