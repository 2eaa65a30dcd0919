-- `blocks::lay`: the bytes before place i are copied.
use mathlib.Core.Path.{◌≡◌, ap, ap₂, ◌∙◌}
use mathlib.Core.List.{List, ◌++◌}
use Prim.Native.Nat.{ℕ, ◌+◌}
use native.Mathlib.Omega.{arith}
use lib.ListN.{take, drop, get_or, set}
use lib.Seq.{take_all}
use Rattle.std.proofs.lemmas.List.Edits.{paste_none, paste_more}
use Rattle.blocks.proofs.lay.Goals as goal

pub loop-i-init : goal.loop-i-init
loop-i-init g c = paste_none c.args.packet.now c.args.at c.args.block

pub loop-i-preserved : goal.loop-i-preserved
loop-i-preserved g c =
    let a = c.args in
    let i : ℕ = c.loop-i.i in
    ap (λ (p : List ℕ). set p (a.at + i) (get_or a.block i 0)) c.loop-i.invariant ∙ paste_more a.packet.now a.at a.block i 0 (omega arith) (omega arith)

pub returns : goal.returns
returns g c =
    let a = c.args in
    let i : ℕ = c.loop-i.i in
    let end : a.at + i ≡ a.at + g.row.N = omega arith in
    c.loop-i.invariant
    ∙ ap₂ (λ (block : List ℕ) (n : ℕ). take a.at a.packet.now ++ block ++ drop n a.packet.now) (take_all i a.block (omega arith)) end
