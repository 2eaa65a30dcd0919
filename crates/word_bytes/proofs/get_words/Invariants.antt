-- `get_words` reads words from bytes.
use mathlib.Core.Path.{◌≡◌}
use Prim.Native.Nat.{◌≤◌}
use lib.ListN.{length}
use Rattle.laws.specs.Bytes.{numbers_of}
use Rattle.laws.specs.Front.{Front}
use Rattle.word_bytes.proofs.get_words.Given as goal

abbrev pub invariant-loop-i : goal.invariant-loop-i
invariant-loop-i l =
    (l.i ≤ length l.initial.words) × (length l.words ≡ length l.initial.words) × Front (numbers_of 4 (length l.initial.words) l.lent) l.i l.words
