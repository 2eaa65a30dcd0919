-- `get_words` reads words from bytes.
use mathlib.Core.Path.{◌≡◌, refl, sym}
use Prim.Native.Nat.{◌+◌, ◌*◌}
use native.Mathlib.Omega.{arith}
use borrow.Author.Rules.{rules}
use lib.ListN.{length, get_or, length-set}
use Rattle.laws.specs.Bytes.{numbers_of}
use Rattle.laws.proofs.Bytes.{length_numbers, number_at}
use Rattle.laws.proofs.Fronts.{front_none, front_more, front_all}
use Rattle.word_bytes.proofs.Bytes.{four_bytes}
use Rattle.word_bytes.proofs.get_words.Goals as goal

pub loop-i-init : goal.loop-i-init
loop-i-init c =
    let z = c.args in
    (search rules, refl, front_none _ _ (sym (length_numbers 4 (length z.words.now) z.lent.now)))

pub loop-i-preserved : goal.loop-i-preserved
loop-i-preserved c =
    let l = c.loop-i in
    let z = c.args in
    let n = length z.words.now in
    let whole = numbers_of 4 n z.lent.now in
    let at : c.from_le_bytes.result ≡ get_or whole l.i 0 =
    omega (arith, c.from_le_bytes.ensures, four_bytes z.lent.now (4 * l.i) (4 * l.i + 1) (4 * l.i + 2) (4 * l.i + 3) refl refl refl (omega arith), number_at 4 n z.lent.now l.i (omega arith)) in
    (omega arith, simp length-set l.invariant.1, front_more whole l.words l.i _ (omega arith) l.invariant.2 at)

pub returns : goal.returns
returns c =
    let l = c.loop-i in
    let z = c.args in
    front_all _ l.words l.i (omega (arith, length_numbers 4 (length z.words.now) z.lent.now)) l.invariant.2
