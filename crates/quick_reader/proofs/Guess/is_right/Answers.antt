-- `quick_reader::Guess::is_right` meets its contract.
use mathlib.Core.Path.{sym, ap, ◌∙◌}
use lib.ListN.{replicate}
use Rattle.std.proofs.lemmas.Bool.Decides.{Decides-eqb}
use Rattle.std.proofs.lemmas.Slice.Eq.{slice_eq-Decides}
use Rattle.laws.proofs.Truth.{true_T, T_true, and_left, and_right}
use Rattle.refusal.specs.Verdict.{Verdict, kept}
use Rattle.hdmi.specs.Island.{island}
use Rattle.quick_reader.proofs.Laid.{encodes}
use Rattle.quick_reader.proofs.Guess.is_right.Goals as goal

pub returns : goal.returns
returns c =
    let me = c.args.self in
    let fine = sym c.encode.ensures.answer ∙ c.unwrap.ensures in
    let written = c.encode.ensures.written ∙ ap (λ (v : Verdict). kept v (island me.hv c.lay.new.packet) (replicate 36 0)) fine ∙ ap (island me.hv) c.lay.ensures in
    let right = c.has_right_parity.result in
    let same = c.eq.result in λ t.
    encodes me.hv me.header me.subpackets c.args.words.now me.pair me.four (sym c.has_right_parity.ensures ∙ T_true (and_left right same (true_T t)))
    ((slice_eq-Decides Decides-eqb c.args.words.now c.encode.new.words same c.eq.ensures).0 (T_true (and_right right same (true_T t))) ∙ written)
