-- `timing::SyncLevels::with_controls` meets its contract: three lanes side by side.
use mathlib.Core.Path.{ap}
use mathlib.Core.Bool.{false}
use Prim.Native.Nat.{ℕ}
use native.Mathlib.Omega.{arith}
use Rattle.hdmi.specs.Period.{control_word}
use Rattle.symbol.specs.declared.TmdsSymbol.{TmdsSymbol}
use Rattle.dvi.specs.Control.{pair_of}
use Rattle.hdmi.proofs.Period.{control_lt, pair_lt}
use Rattle.timing.proofs.SyncLevels.with_controls.Goals as goal

-- the ten bits of a symbol
abbrev raw : TmdsSymbol → ℕ
raw s = s.0

pub overflow_mul-result-2 : goal.overflow_mul-result-2
overflow_mul-result-2 c =
    let a = c.args in
    omega (arith, ap raw c.control-lane_2.ensures, control_lt (pair_of a.ctl2 false) (pair_lt a.ctl2 false))

pub overflow_add-result-2 : goal.overflow_add-result-2
overflow_add-result-2 c =
    let a = c.args in
    omega (
      arith,
      ap raw c.control-lane_0.ensures,
      control_lt (pair_of a.self.h a.self.v) (pair_lt a.self.h a.self.v),
      ap raw c.control-lane_1.ensures,
      control_lt (pair_of a.ctl0 false) (pair_lt a.ctl0 false),
      ap raw c.control-lane_2.ensures,
      control_lt (pair_of a.ctl2 false) (pair_lt a.ctl2 false),
    )

pub returns : goal.returns
unfolding control_word
returns c =
    omega (
      arith,
      ap raw c.control-lane_0.ensures,
      ap raw c.control-lane_1.ensures,
      ap raw c.control-lane_2.ensures,
    )
