-- `TmdsPair::new` joins two numbers of ten bits.
use lib.Dec.{ltb, ltb→lt}
use Rattle.laws.proofs.Truth.{true_T, and_left, and_right}
use Rattle.symbol.proofs.TmdsPair.new.Goals as goal

pub packed-requires : goal.packed-requires
packed-requires c =
    let a = c.args.first.0 in
    let b = c.args.second.0 in
    let t = true_T c.if-first-second.true in
    (ltb→lt a 1024 (and_left (ltb a 1024) (ltb b 1024) t), ltb→lt b 1024 (and_right (ltb a 1024) (ltb b 1024) t))

pub returns-then-first-second : goal.returns-then-first-second
returns-then-first-second c = rw (c.if-first-second.true, c.packed.ensures)

pub returns-else-first-second : goal.returns-else-first-second
returns-else-first-second c = rw c.if-first-second.false
