-- What the line counter answers. It runs through the lines of a frame, from 0 to the total less one, and round again.
use Rattle.std.specs.Prelude.{cond, ◌&&◌, List, [], ◌∷◌, ◌++◌, ℕ, ◌+◌, ◌-◌, ◌%◌, leb, ltb, Result, Option, Ok, Err, Some, None}
use Rattle.refusal.specs.declared.Refusal.TheVariants.{LineCounter, LineOffset}
use Rattle.timing.specs.declared.DviTimingLineState.{DviTimingLineState}
use Rattle.refusal.specs.declared.Refused.{Refused}
use Rattle.refusal.specs.Verdict.{Ask, ask, verdict, answered, handed_back}
use Rattle.timing.specs.declared.DviTiming.{DviTiming}
use Rattle.timing.specs.Timing.{inactive, total, timing_asks}
use Rattle.timing.specs.LineState.{state_at}
use Rattle.counter.specs.declared.DviTimingState.{DviTimingState}

abbrev pub below_total : DviTiming → ℕ → List Ask
below_total t c = ask (ltb c (total t)) LineCounter ∷ []

-- the timing, then the counter
abbrev pub counter_asks : DviTiming → ℕ → List Ask
counter_asks t c = timing_asks t ++ below_total t c

abbrev pub offset_fits : ℕ → ℕ → List Ask
offset_fits c offset = ask (leb (c + offset) 4294967295) LineOffset ∷ []

abbrev pub scanline_asks : DviTiming → ℕ → ℕ → List Ask
scanline_asks t c offset = counter_asks t c ++ offset_fits c offset

abbrev pub counter_at : ℕ → DviTimingState
counter_at c = record { v_ctr = c }

-- the line after line c
abbrev pub line_after : DviTiming → ℕ → ℕ
line_after t c = (c + 1) % total t

abbrev pub advance_of : DviTiming → DviTimingState → Result DviTimingState (Refused DviTimingState)
advance_of t s =
    answered (verdict (counter_asks t s.v_ctr)) (Ok (counter_at (line_after t s.v_ctr))) (λ r. Err (handed_back s r))

abbrev pub v_state_of : DviTiming → DviTimingState → Result DviTimingLineState (Refused DviTimingState)
v_state_of t s = answered (verdict (counter_asks t s.v_ctr)) (Ok (state_at t s.v_ctr)) (λ r. Err (handed_back s r))

-- the row that line y shows, y not folded back into a frame: past the last row there is none
unfoldable pub row_at : DviTiming → ℕ → Option ℕ
row_at t y = cond (leb (inactive t) y && ltb y (total t)) (Some (y - inactive t)) None

abbrev pub scanline_of : DviTiming → DviTimingState → ℕ → Result (Option ℕ) (Refused DviTimingState)
scanline_of t s offset =
    answered (verdict (scanline_asks t s.v_ctr offset)) (Ok (row_at t (s.v_ctr + offset))) (λ r. Err (handed_back s r))
