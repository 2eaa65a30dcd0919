-- `word_of` reads the table, whose rule is computed once over it.
use Rattle.std.proofs.Common.{arith}
use Rattle.laws.proofs.Tables.{made_at}
use Rattle.dvi.specs.Symbol.{symbol_of}
use Rattle.charts.specs.Word.{word_of}
use Rattle.row.proofs.word_of.Goals as goal

pub returns : goal.returns
unfolding symbol_of
returns c = made_at word_of 256 c.args.byte (omega arith)
