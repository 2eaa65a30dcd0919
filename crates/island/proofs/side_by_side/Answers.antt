-- `island::side_by_side` meets its contract.
use mathlib.Core.Path.{ap, ap₂, ◌∙◌}
use Prim.Native.Nat.{ℕ, ◌+◌, ◌*◌, ◌/◌, ◌%◌, ◌^◌}
use Rattle.laws.specs.Bit.{bit}
use Rattle.island.proofs.Streams.{fours, side_by_side}
use Rattle.island.proofs.side_by_side.Goals as goal

pub returns : goal.returns
returns c =
    let a = c.args in
    let on : ℕ = 4 * (a.j / 2 % 2) in
    let made =
    c.merge.ensures ∙ ap₂ (λ (x y : ℕ). fours (x / 2 ^ on) (y / 2 ^ on)) c.merge-one.ensures c.merge-two.ensures in
    λ i s o hi hs ho. ap (bit (8 * i + (2 * s + o))) made ∙ side_by_side a.j a.words i s o hi hs ho
