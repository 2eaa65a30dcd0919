-- `put_lines` stores a line for each symbol.
use Rattle.std.proofs.Common.{◌≡◌, ◌*◌, ◌++◌, take, drop}
use Rattle.row_text.specs.Text.{text_of}
use Rattle.row_text.proofs.put_lines.Given as goal

abbrev pub invariant-loop-i : goal.invariant-loop-i
invariant-loop-i l = take (4 * l.i) l.out ++ text_of (drop l.i l.symbols) ≡ text_of l.symbols
