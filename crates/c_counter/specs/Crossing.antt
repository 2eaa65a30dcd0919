-- How the line counter crosses. It is carried: the carry has its 32 bits.
use Rattle.timing.specs.declared.DviTimingLineState.{DviTimingLineState}
use Rattle.refusal.specs.declared.Refused.{Refused}
use Rattle.std.specs.Prelude.{ℕ, ◌-◌, ◌^◌, ℤ, Result, Option, unwrap_or}
use Rattle.counter.specs.declared.DviTimingState.{DviTimingState}
use Rattle.timing.specs.LineState.{state_number}
use Rattle.crossing.specs.declared.Answer.{Answer}
use Rattle.crossing.specs.Crossing.{carried_by}
use Rattle.crossing.specs.Signed.{signed}

abbrev pub carried : DviTimingState → ℤ
carried s = signed 32 s.v_ctr

-- the next counter
abbrev pub advanced : Result DviTimingState (Refused DviTimingState) → Answer
advanced = carried_by (λ _. 0) carried carried

-- the number of the line's state; the counter s stays
abbrev pub stated : DviTimingState → Result DviTimingLineState (Refused DviTimingState) → Answer
stated s = carried_by state_number (λ _. carried s) carried

-- what stands for 'no row': the highest number of 32 bits, which is no row of any timing
abbrev pub no_row : ℕ
no_row = 2 ^ 32 - 1

abbrev pub row_number : Option ℕ → ℕ
row_number row = unwrap_or row no_row

-- the row; the counter s stays
abbrev pub shown : DviTimingState → Result (Option ℕ) (Refused DviTimingState) → Answer
shown s = carried_by row_number (λ _. carried s) carried
