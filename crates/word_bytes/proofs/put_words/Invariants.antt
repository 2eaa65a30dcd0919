-- `put_words` stores words as bytes, the low byte of each first.
use mathlib.Core.Path.{◌≡◌}
use Prim.Native.Nat.{◌*◌, ◌≤◌}
use lib.ListN.{length, take}
use Rattle.laws.specs.Bytes.{bytes_of}
use Rattle.word_bytes.proofs.put_words.Given as goal

abbrev pub invariant-loop-i : goal.invariant-loop-i
invariant-loop-i l =
    (l.i ≤ length l.words) × (length l.out ≡ 4 * length l.words) × (take (4 * l.i) l.out ≡ bytes_of 4 (take l.i l.words))
