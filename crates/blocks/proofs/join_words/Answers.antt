-- `blocks::join_words`: the header, then each subpacket behind what stands.
use mathlib.Core.Path.{◌≡◌, refl, sym, ap, ◌∙◌}
use mathlib.Core.List.{List, ◌++◌, append-nil}
use Prim.Native.Nat.{ℕ, ◌+◌, ◌*◌}
use native.Mathlib.Omega.{arith}
use borrow.Author.Tests.{eq-eqb}
use lib.ListN.{length, take, drop}
use lib.Seq.{take_at}
use Rattle.blocks.proofs.Laying.{laid_more, laid_all}
use Rattle.blocks.proofs.join_words.Goals as goal

pub loop-s-init : goal.loop-s-init
loop-s-init c =
    let a = c.args in
    ap (take 4) c.lay.ensures ∙ take_at a.header (drop 4 a.packet.now) 4 (omega arith) ∙ sym (append-nil a.header)

-- the place that a subpacket is laid at is known by its number, however the code reckons it
laid_at : {at : ℕ} (place : ℕ) (old block : List ℕ) {new : List ℕ} → new ≡ take at old ++ block ++ drop (at + 8) old → at ≡ place → new ≡ take place old ++ block ++ drop (place + 8) old
laid_at place old block laid same = laid ∙ ap (λ (n : ℕ). take n old ++ block ++ drop (n + 8) old) same

pub loop-s-preserved : goal.loop-s-preserved
loop-s-preserved c =
    let a = c.args in
    let l = c.loop-s in
    ap (take (4 + 8 * (l.s + 1))) (laid_at (4 + 8 * l.s) l.packet c.to_le_bytes.result c.lay-in-loop-s.ensures (omega arith))
    ∙ laid_more a.header a.subpackets l.packet l.s c.to_le_bytes.result _ (omega arith) (omega arith) c.to_le_bytes.ensures l.invariant

pub returns : goal.returns
returns c =
    let l = c.loop-s in
    rw (eq-eqb (length c.args.packet.now) 36 (omega arith))
    (refl, laid_all c.args.header c.args.subpackets l.packet l.s (omega arith) (omega arith) (omega arith) (omega arith) l.invariant)
