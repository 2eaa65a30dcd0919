-- `island::SyncPair::write` meets its contract.
use mathlib.Core.Path.{◌≡◌, subst, sym, ◌∙◌}
use mathlib.Core.List.{List}
use Prim.Native.Nat.{ℕ, ◌+◌, ◌*◌}
use native.Mathlib.Omega.{arith}
use Rattle.laws.specs.Front.{Front}
use Rattle.laws.proofs.Fronts.{front_none, front_all}
use Rattle.hdmi.specs.Island.{island}
use Rattle.hdmi.proofs.Island.{length-island}
use Rattle.island.specs.Words.{Header, Rows}
use Rattle.island.proofs.Characters.{word_of}
use Rattle.island.proofs.Filling.{put_low, put_high, put_data}
use Rattle.island.proofs.Streams.{header_on, rows_on}
use Rattle.island.proofs.SyncPair.write.Goals as goal

pub loop-i-init : goal.loop-i-init
loop-i-init c =
    let hv : ℕ = c.args.self.hv in
    let p : List ℕ = c.args.packet.now in
    let g = c.guard-guard in
    let f0 = front_none (island hv p) c.args.words.now (omega (arith, length-island hv p)) in
    let f1 = put_low hv p 0 1 g.result.0 _ (omega arith) (omega arith) f0 g.ensures in
    record { front = put_low hv p 1 2 g.result.0 _ (omega arith) (omega arith) f1 g.ensures; head = c.of-bits.ensures.header; pairs = c.of-bits.ensures.rows }

pub loop-j-preserved : goal.loop-j-preserved
unfolding Rows
loop-j-preserved c =
    let hv : ℕ = c.args.self.hv in
    let p : List ℕ = c.args.packet.now in
    let i : ℕ = c.loop-i.i in
    let j : ℕ = c.loop-j.j in
    let sent = c.loop-i.invariant in
    let is = word_of p i j _ (omega arith) (omega arith) (sent.pairs j (omega arith)) hv c.loop-i.bits.header sent.head in
    put_data hv p (2 + 4 * i + j) (2 + 4 * i + (j + 1)) (4 * i + j) _ _ (omega arith) (omega arith) (omega arith) c.loop-j.invariant (c.character.ensures ∙ is)

pub loop-i-preserved : goal.loop-i-preserved
loop-i-preserved c =
    let hv : ℕ = c.args.self.hv in
    let p : List ℕ = c.args.packet.now in
    let i : ℕ = c.loop-i.i in
    let sent = c.loop-i.invariant in
    let next = c.behind_four-bits.ensures in
    let at : 2 + 4 * i + c.loop-j.j ≡ 2 + 4 * (i + 1) = omega arith in
    record {
      front = subst (λ (n : ℕ). Front (island hv p) n c.loop-j.words) at c.loop-j.invariant;
      head = subst (Header p (i + 1)) (sym next.header) (header_on p i c.loop-i.bits.header sent.head);
      pairs = subst (Rows p (i + 1)) (sym next.rows) (rows_on p i c.loop-i.bits.rows sent.pairs);
    }

pub returns : goal.returns
returns c =
    let hv : ℕ = c.args.self.hv in
    let p : List ℕ = c.args.packet.now in
    let l = c.loop-i in
    let g = c.guard-guard in
    let done : 2 + 4 * l.i ≡ 34 = omega arith in
    let f2 : Front (island hv p) 34 l.words = subst (λ (n : ℕ). Front (island hv p) n l.words) done l.invariant.front in
    let f3 = put_high hv p 34 35 g.result.0 _ (omega arith) (omega arith) (omega arith) f2 g.ensures in
    let f4 = put_high hv p 35 36 g.result.0 _ (omega arith) (omega arith) (omega arith) f3 g.ensures in
    front_all (island hv p) _ 36 (omega (arith, length-island hv p)) f4
