-- `read`: four bytes for each word, else nothing is read; then the reader's own answer.
use mathlib.Core.Path.{refl, sym, ◌∙◌}
use lib.ListN.{length}
use Rattle.refusal.specs.declared.Refusal.TheVariants.{Length}
use Rattle.refusal.specs.Verdict.{verdict}
use Rattle.island_reader.specs.Read.{read_asks}
use Rattle.word_bytes.specs.Words.{four_each}
use Rattle.word_bytes.proofs.Scratch.{rest_unasked, rest_decides}
use Rattle.c_island.specs.Asks.{words_in}
use borrow.Author.Rules.{rules}
use Rattle.c_island.proofs.read.Goals as goal

pub returns-in_err-words_lent : goal.returns-in_err-words_lent
returns-in_err-words_lent c =
    let z = c.args in
    let u = rest_unasked (four_each (length z.words.now) 36) Length _ (verdict (read_asks (words_in z.words.now) z.packet.now)) (sym c.words_lent.ensures.answer ∙ c.in_err-words_lent.was) in
    rw u record { answer = search rules; written = refl }

pub returns : goal.returns
returns c =
    let lent = c.words_lent.ensures in
    let fits = rest_decides (four_each (length c.args.words.now) 36) Length (sym lent.answer ∙ c.in_ok-words_lent.was) in
    let e = rw (lent.read, fits) at c.read.ensures in
    rw fits record { answer = e.answer; written = e.written }
