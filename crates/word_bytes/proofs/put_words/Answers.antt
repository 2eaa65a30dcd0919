-- `put_words` stores words as bytes, the low byte of each first.
use mathlib.Core.Path.{◌≡◌, refl, sym, ap, ◌∙◌}
use mathlib.Core.List.{[], ◌∷◌, ◌++◌}
use Prim.Native.Nat.{ℕ, ◌+◌, ◌*◌, ◌≤◌, ◌<◌}
use native.Mathlib.Omega.{arith}
use native.Mathlib.Numerals.{add-one}
use borrow.Author.Rules.{rules}
use lib.ListN.{length, take, get_or}
use lib.Seq.{take-suc, take_all, length-sets}
use Rattle.laws.specs.Bytes.{bytes_of}
use Rattle.laws.proofs.Bytes.{stored, all_stored}
use Rattle.word_bytes.proofs.put_words.Goals as goal

pub loop-i-init : goal.loop-i-init
loop-i-init c = (search rules, search rules, refl)

pub loop-i-preserved : goal.loop-i-preserved
loop-i-preserved c =
    let l = c.loop-i in
    let words = c.args.words.now in
    let e = c.put_word.ensures in
    let h : l.i < length words = omega arith in
    let room : 4 * (l.i + 1) ≤ length l.out = omega arith in
    let more : take l.i words ++ (get_or words l.i 0 ∷ []) ≡ take (l.i + 1) words = sym (ap (λ (k : ℕ). take k words) (add-one l.i) ∙ take-suc words l.i 0 h) in
    (omega arith, ap length e ∙ simp length-sets l.invariant.1, ap (take (4 * (l.i + 1))) e ∙ stored 4 l.out (take l.i words) l.i (get_or words l.i 0) room l.invariant.2 ∙ ap (bytes_of 4) more)

pub returns : goal.returns
returns c =
    let l = c.loop-i in
    let words = c.args.words.now in
    all_stored 4 l.out (take l.i words) l.i (omega arith) l.invariant.2 ∙ ap (bytes_of 4) (take_all l.i words (omega arith))
