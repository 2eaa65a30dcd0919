-- `send` is one step along a row, by the byte's word.
use Rattle.std.proofs.Common.{◌≡◌, ℕ, ◌%◌, ◌<◌, arith}
use Rattle.charts.specs.Word.{unbiased, held, Field, Step, half, after, word_of}
use Rattle.charts.proofs.Words as words
use Rattle.row.proofs.Lane.send.Goals as goal

stepped : (x b y w : ℕ) → Field x → b < 256 → w ≡ word_of b → y ≡ half x w → Step (unbiased (held x)) b (y % 1024) (after x y)
stepped x b y w f l e h = rw (h, e) (words.step x b f l)

pub invariant_of-self : goal.invariant_of-self
invariant_of-self c = record { field = (stepped _ c.args.byte _ _ c.args.self.now.field (omega arith) c.word_of.ensures c.half_of-half.ensures).field }

pub returns : goal.returns
returns c = stepped _ c.args.byte _ _ c.args.self.now.field (omega arith) c.word_of.ensures c.half_of-half.ensures
