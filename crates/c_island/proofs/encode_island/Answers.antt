-- The words of an island as bytes, or nothing.
use mathlib.Core.Path.{◌≡◌}
use lib.ListN.{length}
use Rattle.word_bytes.proofs.Scratch.{crossed}
use borrow.Author.Rules.{rules}
use Rattle.c_island.proofs.encode_island.Goals as goal

pub returns : goal.returns
returns c =
    let told = c.words_told in
    let made = c.encode-v in
    let long : length made.new.words ≡ 36 = search rules in
    let e = crossed 36 c.args.words.now _ _ _ _ _ _ _ long made.ensures.answer made.ensures.written (told.ensures.answer, told.ensures.written) in
    record { answer = e.0; written = e.1 }
