-- `island_reader::numbers` meets its contract.
use mathlib.Core.Path.{sym, ◌∙◌}
use Prim.Native.Nat.{ℕ}
use native.Mathlib.Omega.{arith}
use Rattle.island_reader.proofs.Nibbles.{unread_0, unread_1, unread_2, read_all, lane_none, lane_some}
use Rattle.island_reader.proofs.numbers.Goals as goal

pub returns-in_err-on_lane : goal.returns-in_err-on_lane
returns-in_err-on_lane c =
    rw c.from_residual.ensures (unread_0 c.args.word (lane_none 0 c.args.word (sym c.on_lane.ensures ∙ c.in_err-on_lane.was)))

pub returns-in_err-on_lane-2 : goal.returns-in_err-on_lane-2
returns-in_err-on_lane-2 c =
    rw c.from_residual-in_err-on_lane-2.ensures (unread_1 c.args.word (lane_none 1 c.args.word (sym c.on_lane-2.ensures ∙ c.in_err-on_lane-2.was)))

pub returns-in_err-on_lane-3 : goal.returns-in_err-on_lane-3
returns-in_err-on_lane-3 c =
    rw c.from_residual-in_err-on_lane-3.ensures (unread_2 c.args.word (lane_none 2 c.args.word (sym c.on_lane-3.ensures ∙ c.in_err-on_lane-3.was)))

pub returns : goal.returns
returns c =
    let w : ℕ = c.args.word in
    let a = lane_some 0 w _ (sym c.on_lane.ensures ∙ c.in_ok-on_lane.was) in
    let b = lane_some 1 w _ (sym c.on_lane-2.ensures ∙ c.in_ok-on_lane-2.was) in
    let d = lane_some 2 w _ (sym c.on_lane-3.ensures ∙ c.in_ok-on_lane-3.was) in
    (omega (arith, c.from-a.ensures, c.from-b.ensures, c.from-c.ensures, a.1, b.1, d.1), read_all w (λ e. omega (arith, a.0)) (λ e. omega (arith, b.0)) (λ e. omega (arith, d.0)))
