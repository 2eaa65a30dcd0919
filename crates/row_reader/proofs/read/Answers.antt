-- `read` unpacks what was scanned to its end.
use Rattle.std.proofs.Common.{sym, ◌∙◌, length, eqb, eqb→eq}
use Rattle.std.specs.Prelude.{Ok}
use Rattle.refusal.specs.declared.Refusal.TheVariants.{NotData}
use Rattle.refusal.proofs.Verdicts.{holds_first}
use Rattle.row_reader.specs.Answer.{first_bad}
use Rattle.row_reader.proofs.Lookups.{scanned}
use Rattle.row_reader.proofs.read.Goals as goal

pub unpack-requires-clause-data : goal.unpack-requires-clause-data
unpack-requires-clause-data g c =
    let ss = g.S.Store.symbols c.args.lent.now in
    scanned ss (eqb→eq _ _ (holds_first (eqb (first_bad ss) (length ss)) (NotData (first_bad ss)) (Ok tt) (sym c.scan.ensures ∙ c.in_ok-scan.was)))
