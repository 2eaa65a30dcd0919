-- `scan` finds the first symbol that is no data symbol.
use Rattle.std.proofs.Common.{◌≡◌, length, get_or, sym, ap, ◌∙◌, arith}
use borrow.Author.Tests.{eq-eqb, ne_eqb}
use Rattle.dvi.specs.Decoder.{is_data}
use Rattle.row_reader.proofs.Lookups.{data_more, refused_at, all_data}
use Rattle.row_reader.proofs.scan.Goals as goal
use Rattle.row_reader.proofs.scan.Goals.{After-is_data}

-- what was asked of the symbol
asked : (g : _) (c : After-is_data g) → is_data (get_or (g.S.Store.symbols c.args.lent.now) c.loop-i.i 0) ≡ c.is_data.result
asked g c = sym (c.is_data.ensures ∙ ap is_data c.get.ensures)

pub loop-i-init : goal.loop-i-init
loop-i-init g c = c.settled-i.ensures.«data»

pub returns-then-not-is_data : goal.returns-then-not-is_data
returns-then-not-is_data g c =
    let ss = g.S.Store.symbols c.args.lent.now in
    let e = refused_at ss c.loop-i.i (omega arith) c.loop-i.invariant (asked g (goal.at.returns-then-not-is_data g c).After-is_data ∙ c.if-not-is_data.true) in
    rw (e, ne_eqb c.loop-i.i (length ss) (λ h. omega arith))

pub loop-i-preserved : goal.loop-i-preserved
loop-i-preserved g c = data_more _ c.loop-i.i c.loop-i.invariant (asked g (goal.at.loop-i-preserved g c).After-is_data ∙ c.if-not-is_data.false)

pub returns : goal.returns
returns g c =
    let ss = g.S.Store.symbols c.args.lent.now in
    let i : c.loop-i.i ≡ length ss = omega (arith, c.settled-i.ensures.within) in
    rw (eq-eqb _ _ (all_data ss (rw i at c.loop-i.invariant)))
