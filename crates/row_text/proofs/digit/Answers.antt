-- `digit` reads the table, whose rule is computed once over it.
use Rattle.std.proofs.Common.{◌%◌, arith}
use Rattle.laws.proofs.Tables.{made_at}
use Rattle.row_text.specs.Text.{digit_of}
use Rattle.row_text.proofs.digit.Goals as goal

pub returns : goal.returns
returns c = made_at digit_of 16 (c.args.n % 16) (omega arith)
