-- The line counter after one advance: the next line's, or as it was where the advance is refused.
use Rattle.refusal.specs.Verdict.{Verdict, verdict, answered}
use Rattle.timing.specs.declared.DviTiming.{DviTiming}
use Rattle.counter.specs.declared.DviTimingState.{DviTimingState}
use Rattle.counter.specs.Counter.{counter_asks, counter_at, line_after}

abbrev pub counter_after : DviTiming → DviTimingState → DviTimingState
counter_after t s = answered (verdict (counter_asks t s.v_ctr)) (counter_at (line_after t s.v_ctr)) (λ _. s)

-- with what is said of the advance
abbrev pub stepped_of : DviTiming → DviTimingState → DviTimingState × Verdict
stepped_of t s = (counter_after t s, verdict (counter_asks t s.v_ctr))
