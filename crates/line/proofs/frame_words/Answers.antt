-- `line::frame_words` meets its contract.
use Rattle.line.specs.Words.{framed}
use Rattle.line.proofs.frame_words.Goals as goal

pub returns : goal.returns
unfolding framed
returns c =
    simp (c.v_sync-on.ensures, c.sync_word-off.ensures, c.data_word.ensures, c.sync_word.ensures, c.lead_words.ensures)
