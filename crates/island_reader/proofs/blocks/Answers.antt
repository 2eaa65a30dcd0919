-- `island_reader::blocks` meets its contract.
use mathlib.Core.Path.{sym, ap, ◌∙◌}
use mathlib.Core.Bool.{not}
use mathlib.Core.List.{List}
use Prim.Native.Nat.{ℕ, ◌+◌, ◌-◌, ◌*◌}
use native.Mathlib.Omega.{arith}
use Rattle.refusal.specs.declared.Refusal.TheVariants.{SubpacketParity}
use Rattle.island_reader.proofs.Nowhere.{refused_first, refused_none}
use Rattle.island_reader.proofs.Right.{header_passes, wrong_block, block_right}
use Rattle.island_reader.proofs.blocks.Goals as goal

pub returns-then-not-is_right-2 : goal.returns-then-not-is_right-2
returns-then-not-is_right-2 c =
    let p : List ℕ = c.args.packet.now in
    let s : ℕ = c.loop-s.s in
    let l = c.loop-s.invariant in
    let wrong = sym (block_right p s (12 + 8 * s - (4 + 8 * s)) c.told-packet (omega arith) (omega arith)) ∙ sym c.is_right-in-loop-s.ensures ∙ c.if-not-is_right-2.true in
    sym (header_passes p l.0 ∙ refused_first (wrong_block p) 0 4 SubpacketParity s (omega arith) (omega arith) (ap not wrong) (λ j a b. ap not (l.1 j b)))

pub returns : goal.returns
returns c =
    let p : List ℕ = c.args.packet.now in
    let l = c.loop-s in
    sym (header_passes p l.invariant.0 ∙ refused_none (wrong_block p) 0 4 SubpacketParity (λ j a b. ap not (l.invariant.1 j (omega arith))))
