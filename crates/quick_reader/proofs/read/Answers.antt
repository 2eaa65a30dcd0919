-- `quick_reader::read` meets its contract.
use mathlib.Core.Path.{sym}
use Rattle.island_reader.proofs.Accepted.{accepts}
use Rattle.quick_reader.proofs.read.Goals as goal

pub returns-in-Some : goal.returns-in-Some
returns-in-Some c =
    let whole = rw c.in_ok-island.ensures.ok_part at c.as_array.ensures.cases in
    let is = rw whole.same at c.in-Some.ensures in
    let found = accepts c.in-Some.hv c.known.new.packet c.args.words.now c.args.packet.now is c.if-packet-eq36.true in
    record { answer = sym found.0; written = sym found.1 }
