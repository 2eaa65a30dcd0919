-- A decision on a line state's number has one answer.
use mathlib.Core.Path.{◌≡◌, refl, ap, sym, ◌∙◌}
use mathlib.Core.Bool.{cond}
use Prim.Native.Nat.{ℕ, ◌≤◌, ◌<◌}
use lib.Dec.{eqb}
use native.Mathlib.Omega.{arith}
use Rattle.std.specs.Prelude.{Result, Ok, Err}
use Rattle.refusal.specs.declared.Refusal.{Refusal}
use Rattle.timing.specs.declared.DviTimingLineState.{DviTimingLineState}
use Rattle.timing.specs.declared.DviTimingLineState.TheVariants.{FrontPorch, Sync, BackPorch, Active}
use Rattle.timing.specs.LineState.{state_number, state_decided}

abbrev state_back : ℕ → DviTimingLineState
state_back n = cond (eqb n 0) FrontPorch (cond (eqb n 1) Sync (cond (eqb n 2) BackPorch Active))

back : (s : DviTimingLineState) → state_back (state_number s) ≡ s
back FrontPorch = refl
back Sync = refl
back BackPorch = refl
back Active = refl

below : (s : DviTimingLineState) → state_number s < 4
below FrontPorch = omega arith
below Sync = omega arith
below BackPorch = omega arith
below Active = omega arith

-- no second answer fits
pub state_once : (n : ℕ) (c d : Result DviTimingLineState Refusal) → state_decided n c → state_decided n d → c ≡ d
state_once n (Ok x) (Ok y) ex ey = ap Ok (sym (back x) ∙ ap state_back (ex ∙ sym ey) ∙ back y)
state_once n (Ok x) (Err r) ex h = let b = below x in absurd (omega arith)
state_once n (Err r) (Ok x) h ex = let b = below x in absurd (omega arith)
state_once n (Err r) (Err s) hr hs = ap Err (hr.0 ∙ sym hs.0)
