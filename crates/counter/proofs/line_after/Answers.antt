-- `counter::line_after`: an accepted timing has few enough lines, and the counter is one of them.
use Rattle.std.proofs.Common.{arith}
use Rattle.counter.proofs.Lines.{counted, total_most}
use Rattle.counter.proofs.line_after.Goals as goal

pub overflow_add-result : goal.overflow_add-result
overflow_add-result c =
    let k = counted c.args.t c.args.line c.requires in
    omega (arith, k.below, total_most c.args.t k.timing)
