-- An island line's command words among its bytes, or nothing.
use mathlib.Core.Path.{◌≡◌}
use lib.ListN.{length, replicate}
use Rattle.laws.specs.Bytes.{numbers_of}
use Rattle.refusal.specs.Verdict.{verdict}
use Rattle.line.specs.Asks.{line_asks}
use Rattle.line.specs.Line.{init_line}
use Rattle.crossing.specs.Timing.{timing_of}
use Rattle.word_bytes.proofs.Scratch.{crossed_lent}
use borrow.Author.Rules.{rules}
use Rattle.c_line.proofs.init_data_island.Goals as goal

pub returns-clause-words : goal.returns-clause-words
returns-clause-words c =
    let z = c.args in
    let told = c.words_told in
    let made = c.init_data_island-v in
    let lent = c.words_lent in
    let short : length lent.new.words ≡ 56 = search rules in
    let e = rw (c.into.ensures, short) at made.ensures in
    let long : length made.new.line ≡ 56 = search rules in
    (crossed_lent 56 z.line.now (verdict (line_asks (timing_of z.timing) 56 56)) (init_line (timing_of z.timing)) (numbers_of 4 56 z.line.now) (replicate 56 0) lent.new.words made.new.line _
    made.result told.result long e.answer lent.ensures.read e.words (told.ensures.answer, told.ensures.written)).1
