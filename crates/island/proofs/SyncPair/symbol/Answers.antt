-- `island::SyncPair::symbol` meets its contract.
use mathlib.Core.Path.{◌∙◌}
use mathlib.Core.List.{List}
use Prim.Native.Nat.{ℕ, ◌+◌, ◌-◌}
use native.Mathlib.Omega.{arith}
use lib.ListN.{drop}
use lib.Seq.{get_or-take, get_or-drop}
use Rattle.terc4.proofs.Lookup.{symbol_at}
use Rattle.island.proofs.SyncPair.symbol.Goals as goal

pub returns : goal.returns
returns c =
    let t : List ℕ = c.symbols.result.now in
    let hv : ℕ = c.args.self.hv in
    let m : ℕ = c.args.marks in
    c.from.ensures ∙ get_or-take (16 - hv) (drop hv t) m 0 (omega arith) ∙ get_or-drop hv t m 0 ∙ symbol_at t (hv + m) c.symbols.ensures (omega arith)
