-- `island_reader::lanes` meets its contract.
use mathlib.Core.Path.{◌≡◌, sym, ap, subst, ◌∙◌}
use mathlib.Core.Bool.{false}
use mathlib.Core.List.{List}
use Prim.Native.Nat.{ℕ, ◌+◌}
use native.Mathlib.Omega.{arith}
use borrow.Author.Count.{below_more}
use lib.ListN.{get_or}
use Rattle.std.specs.Prelude.{Err, OnOk}
use Rattle.laws.proofs.Fronts.{front_none, front_more, front_all}
use Rattle.refusal.specs.declared.Refusal.TheVariants.{NotTerc4}
use Rattle.refusal.specs.Verdict.{Verdict}
use Rattle.island_reader.specs.Found.{unread}
use Rattle.island_reader.specs.Numbers.{numbers_in}
use Rattle.island_reader.specs.Read.{lane_wrong}
use Rattle.island_reader.proofs.Chain.{handed_on}
use Rattle.island_reader.proofs.Nibbles.{clean_words, length_numbers, numbers_at}
use Rattle.island_reader.proofs.Nowhere.{refused_first, refused_none}
use Rattle.island_reader.proofs.lanes.Goals as goal

pub loop-k-init : goal.loop-k-init
loop-k-init c = record { clean = λ j h. absurd (omega arith); front = front_none (numbers_in c.args.words.now) _ (omega (arith, length_numbers c.args.words.now)) }

pub returns-in_err-found : goal.returns-in_err-found
returns-in_err-found c =
    let ws : List ℕ = c.args.words.now in
    let k : ℕ = c.loop-k.k in
    let none = rw c.in_err-found.ensures.ok_part at c.numbers.ensures in
    let said = rw c.in_err-found.ensures.ok_part at c.in_err-found.ensures.value in
    let same : c.in_err-found.field-0.0 ≡ NotTerc4 (2 + k) = cc in
    let at = refused_first (lane_wrong ws) 2 32 NotTerc4 (2 + k) (omega arith) (omega arith) none (clean_words ws k c.loop-k.invariant.clean) in
    let refused = handed_on c.from_residual.result _ c.from_residual.ensures.1 in
    record { answer = refused ∙ ap Err same ∙ sym at; read = subst (λ (r : Verdict). OnOk r (c.loop-k.found ≡ numbers_in ws)) (sym refused) tt }

pub loop-k-preserved : goal.loop-k-preserved
loop-k-preserved c =
    let ws : List ℕ = c.args.words.now in
    let l = c.loop-k in
    let it = rw c.in_ok-found.ensures.ok_part at c.numbers.ensures in
    record {
      clean = below_more (λ j. unread (get_or ws (2 + j) 0) ≡ false) l.k l.invariant.clean it.1;
      front = front_more (numbers_in ws) l.found l.k _ (omega (arith, length_numbers ws)) l.invariant.front (it.0 ∙ sym (numbers_at ws l.k (omega arith)));
    }

pub returns : goal.returns
returns c =
    let ws : List ℕ = c.args.words.now in
    let l = c.loop-k in
    record {
      answer = sym (refused_none (lane_wrong ws) 2 32 NotTerc4 (λ j a b. clean_words ws l.k l.invariant.clean j a (omega arith)));
      read = front_all (numbers_in ws) l.found l.k (omega (arith, length_numbers ws)) l.invariant.front;
    }
