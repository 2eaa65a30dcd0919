-- Each bound at its edge, on both sides, for every accepted timing.
use mathlib.Core.Path.{◌≡◌, refl, sym, ap, ◌∙◌}
use Prim.Native.Nat.{ℕ, ◌+◌, ◌-◌, ◌%◌, ◌≤◌, ◌<◌}
use native.Mathlib.Nat.{mod_self}
use native.Mathlib.Omega.{arith}
use borrow.Author.Tests.{lt-ltb, le-ltb, le-leb, lt-leb}
use Rattle.std.specs.Prelude.{Ok, Err, Some, None}
use Rattle.refusal.specs.declared.Refusal.TheVariants.{LineCounter, LineOffset}
use Rattle.refusal.specs.Verdict.{verdict, handed_back}
use Rattle.timing.specs.declared.DviTiming.{DviTiming}
use Rattle.timing.specs.LineState.{state_at}
use Rattle.timing.specs.Timing.{inactive, total, timing_asks}
use Rattle.timing.proofs.Ranges.{accepted}
use Rattle.refusal.proofs.Upward.{continued, passes, fails, answers, hands_on}
use Rattle.counter.specs.Counter.{below_total, counter_asks, offset_fits, scanline_asks, counter_at, line_after, advance_of, v_state_of, row_at, scanline_of}
use Rattle.counter.proofs.Lines.{total_least}
use Rattle.counter.proofs.Frame.{fine}

module _ (t : DviTiming) where
  shown : (y : ℕ) → inactive t ≤ y → y < total t → row_at t y ≡ Some (y - inactive t)
  unfolding row_at
  shown y a b = simp (le-leb _ _ a, lt-ltb _ _ b)

  before_rows : (y : ℕ) → y < inactive t → row_at t y ≡ None
  unfolding row_at
  before_rows y a = simp (lt-leb _ _ a)

  after_rows : (y : ℕ) → total t ≤ y → row_at t y ≡ None
  unfolding row_at
  after_rows y b =
      let a : inactive t ≤ y = omega arith in
      simp (le-leb _ _ a, le-ltb _ _ b)

  module _ (ok : verdict (timing_asks t) ≡ Ok tt) where
    -- the last line goes back to the first, and what is past it is refused
    pub from_last : advance_of t (counter_at (total t - 1)) ≡ Ok (counter_at 0)
    from_last =
        let least = total_least t (accepted t ok) in
        let c : ℕ = total t - 1 in
        let e : c + 1 ≡ total t = omega arith in
        sym (answers refl (Ok (counter_at (line_after t c))) (λ r. Err (handed_back (counter_at c) r)) (fine t ok c (omega arith)))
        ∙ ap (λ (n : ℕ). Ok (counter_at n)) (ap (λ (n : ℕ). n % total t) e ∙ mod_self (total t))

    past-last : verdict (counter_asks t (total t)) ≡ Err LineCounter
    past-last =
        let l : total t ≤ total t = omega arith in
        sym (fails LineCounter (le-ltb (total t) (total t) l) ∙ continued (timing_asks t) (below_total t (total t)) (sym ok) refl)

    pub advance-past : advance_of t (counter_at (total t)) ≡ Err (handed_back (counter_at (total t)) LineCounter)
    advance-past = sym (hands_on refl (Ok (counter_at (line_after t (total t)))) (λ r. Err (handed_back (counter_at (total t)) r)) past-last)

    pub state-past : v_state_of t (counter_at (total t)) ≡ Err (handed_back (counter_at (total t)) LineCounter)
    state-past = sym (hands_on refl (Ok (state_at t (total t))) (λ r. Err (handed_back (counter_at (total t)) r)) past-last)

    -- counter and offset together reach 4,294,967,295 and no further
    pub offset-most : (c : ℕ) → c < total t → c ≤ 4294967295 → scanline_of t (counter_at c) (4294967295 - c) ≡ Ok (row_at t 4294967295)
    offset-most c h l =
        let e : c + (4294967295 - c) ≡ 4294967295 = omega arith in
        let fits : c + (4294967295 - c) ≤ 4294967295 = omega arith in
        let ok-all : verdict (scanline_asks t c (4294967295 - c)) ≡ Ok tt =
        sym (passes LineOffset (le-leb _ _ fits) ∙ continued (counter_asks t c) (offset_fits c (4294967295 - c)) (sym (fine t ok c h)) refl) in
        sym (answers refl (Ok (row_at t (c + (4294967295 - c)))) (λ r. Err (handed_back (counter_at c) r)) ok-all) ∙ ap (λ (y : ℕ). Ok (row_at t y)) e

    pub offset-past : (c : ℕ) → c < total t → c ≤ 4294967295
        → scanline_of t (counter_at c) (4294967296 - c) ≡ Err (handed_back (counter_at c) LineOffset)
    offset-past c h l =
        let over : 4294967295 < c + (4294967296 - c) = omega arith in
        let refused : verdict (scanline_asks t c (4294967296 - c)) ≡ Err LineOffset =
        sym (fails LineOffset (lt-leb _ _ over) ∙ continued (counter_asks t c) (offset_fits c (4294967296 - c)) (sym (fine t ok c h)) refl) in
        sym (hands_on refl (Ok (row_at t (c + (4294967296 - c)))) (λ r. Err (handed_back (counter_at c) r)) refused)

    -- the first and the last row, and the lines beside them
    pub first-row : (row_at t (inactive t - 1) ≡ None) × (row_at t (inactive t) ≡ Some 0)
    first-row =
        let a = accepted t ok in
        let z : inactive t - inactive t ≡ 0 = omega arith in (
          before_rows (inactive t - 1) (omega (arith, a.v_front.least)),
          shown (inactive t) (omega arith) (omega (arith, a.v_active.least)) ∙ ap Some z,
        )

    pub last_row : (row_at t (total t - 1) ≡ Some (t.v_active_lines - 1)) × (row_at t (total t) ≡ None)
    last_row =
        let a = accepted t ok in
        let e : total t - 1 - inactive t ≡ t.v_active_lines - 1 = omega arith in (
          shown (total t - 1) (omega (arith, a.v_active.least)) (omega (arith, a.v_active.least)) ∙ ap Some e,
          after_rows (total t) (omega arith),
        )
