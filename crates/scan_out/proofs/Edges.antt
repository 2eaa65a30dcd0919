-- Err, the counter stands; the last line goes back to the first; past it the counter stands and the answer is 8.
use mathlib.Core.Path.{◌≡◌, sym, ap, ◌∙◌}
use Prim.Native.Nat.{◌-◌}
use Rattle.std.specs.Prelude.{Ok, Err}
use Rattle.refusal.specs.declared.Refusal.{Refusal}
use Rattle.refusal.specs.declared.Refusal.TheVariants.{LineCounter}
use Rattle.refusal.specs.Verdict.{verdict, answered, Verdict}
use Rattle.timing.specs.declared.DviTiming.{DviTiming}
use Rattle.timing.specs.Timing.{total, timing_asks}
use Rattle.counter.specs.declared.DviTimingState.{DviTimingState}
use Rattle.counter.specs.Counter.{counter_asks, counter_at, line_after}
use Rattle.counter.proofs.Edges.{from_last, advance-past}
use Rattle.scan_out.specs.Stepped.{counter_after, stepped_of}
use Rattle.scan_out.proofs.Steps.{apart, advance_apart}

pub stands : (t : DviTiming) (s : DviTimingState) (r : Refusal) → verdict (counter_asks t s.v_ctr) ≡ Err r → counter_after t s ≡ s
stands t s r e = ap (λ (v : Verdict). answered v (counter_at (line_after t s.v_ctr)) (λ _. s)) e

module _ (t : DviTiming) (ok : verdict (timing_asks t) ≡ Ok tt) where
  pub last_to_first : stepped_of t (counter_at (total t - 1)) ≡ (counter_at 0, Ok tt)
  last_to_first = sym (advance_apart t (counter_at (total t - 1))) ∙ ap apart (from_last t ok)

  pub past_stands : stepped_of t (counter_at (total t)) ≡ (counter_at (total t), Err LineCounter)
  past_stands = sym (advance_apart t (counter_at (total t))) ∙ ap apart (advance-past t ok)
