-- An advance's answer, taken apart: the counter that it leaves, and its verdict.
use mathlib.Core.Path.{◌≡◌, refl}
use Rattle.std.specs.Prelude.{Result, Ok, Err}
use Rattle.refusal.specs.declared.Refused.{Refused}
use Rattle.refusal.specs.Verdict.{verdict, answered, Verdict, handed_back}
use Rattle.timing.specs.declared.DviTiming.{DviTiming}
use Rattle.counter.specs.declared.DviTimingState.{DviTimingState}
use Rattle.counter.specs.Counter.{counter_asks, counter_at, line_after, advance_of}
use Rattle.scan_out.specs.Stepped.{stepped_of}

abbrev pub apart : Result DviTimingState (Refused DviTimingState) → DviTimingState × Verdict
apart (Ok s) = (s, Ok tt)
apart (Err e) = (e.back, Err e.refusal)

by_verdict : (v : Verdict) (n s : DviTimingState) → apart (answered v (Ok n) (λ r. Err (handed_back s r))) ≡ (answered v n (λ _. s), v)
by_verdict (Ok _) n s = refl
by_verdict (Err r) n s = refl

pub advance_apart : (t : DviTiming) (s : DviTimingState) → apart (advance_of t s) ≡ stepped_of t s
advance_apart t s = by_verdict (verdict (counter_asks t s.v_ctr)) (counter_at (line_after t s.v_ctr)) s
