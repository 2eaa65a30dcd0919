-- The four states of a line, their numbers, and the state of each line of a frame: first the front porch, then sync, the back porch and the active lines.
use Rattle.std.specs.Prelude.{◌≡◌, cond, ℕ, ◌+◌, ◌≤◌, ltb, Result, Ok, Err}
use Rattle.refusal.specs.declared.Refusal.{Refusal}
use Rattle.refusal.specs.declared.Refusal.TheVariants.{Unlisted}
use Rattle.timing.specs.declared.DviTiming.{DviTiming}
use Rattle.timing.specs.declared.DviTimingLineState.{DviTimingLineState}
use Rattle.timing.specs.declared.DviTimingLineState.TheVariants.{FrontPorch, Sync, BackPorch, Active}
use Rattle.timing.specs.Timing.{inactive}

abbrev pub state_number : DviTimingLineState → ℕ
state_number FrontPorch = 0
state_number Sync = 1
state_number BackPorch = 2
state_number Active = 3

-- the state with a number, or the refusal of one that is none of the four
abbrev pub state_decided : ℕ → Result DviTimingLineState Refusal → Type 0
state_decided n (Ok s) = state_number s ≡ n
state_decided n (Err r) = (r ≡ Unlisted) × (4 ≤ n)

-- how many lines of a frame have the state
abbrev pub lines_in : DviTiming → DviTimingLineState → ℕ
lines_in t FrontPorch = t.v_front_porch
lines_in t Sync = t.v_sync_width
lines_in t BackPorch = t.v_back_porch
lines_in t Active = t.v_active_lines

-- the state of line c, c below the total
unfoldable pub state_at : DviTiming → ℕ → DviTimingLineState
state_at t c =
    cond (ltb c t.v_front_porch) FrontPorch
    (cond (ltb c (t.v_front_porch + t.v_sync_width)) Sync (cond (ltb c (inactive t)) BackPorch Active))
