-- `island_reader::guards` meets its contract.
use mathlib.Core.Path.{◌≡◌, refl, sym, ap, ◌∙◌}
use mathlib.Core.Bool.{false}
use mathlib.Core.List.{List, [], ◌∷◌}
use Prim.Native.Nat.{ℕ, zero, suc, ◌+◌, ◌<◌}
use native.Mathlib.Omega.{arith}
use lib.ListN.{get_or}
use Rattle.std.specs.Prelude.{Ok, Err}
use Rattle.refusal.specs.declared.Refusal.TheVariants.{GuardWord}
use Rattle.refusal.specs.Verdict.{Verdict, answered}
use Rattle.island_reader.specs.Found.{pair_of}
use Rattle.island_reader.specs.Read.{guard_place, guard_wrong}
use Rattle.island_reader.proofs.Chain.{handed_on}
use Rattle.island_reader.proofs.Nowhere.{refused_first, refused_none}
use Rattle.island_reader.proofs.SyncPairs.{pair_right, guard_fine, guard_other, guard_none}
use Rattle.island_reader.proofs.guards.Goals as goal

-- the places behind word 0's
place : (i : ℕ) → i < 3 → get_or (1 ∷ 34 ∷ 35 ∷ []) i 0 ≡ guard_place (i + 1)
place zero h = refl
place (suc zero) h = refl
place (suc (suc zero)) h = refl
place (suc (suc (suc i))) h = absurd (omega arith)

module _ (ws : List ℕ) where
  abbrev hv : ℕ
  hv = pair_of (get_or ws 0 0)

  -- a guard word that is word 0's is right
  right : hv < 4 → (j : ℕ) → get_or ws (guard_place j) 0 ≡ get_or ws 0 0 → guard_wrong hv ws j ≡ false
  right h j e = guard_fine hv ws j h (e ∙ pair_right (get_or ws 0 0) h)

pub returns-in_err-hv : goal.returns-in_err-hv
returns-in_err-hv c =
    let ws : List ℕ = c.args.words.now in
    let none : hv ws ≡ 4 = rw c.in_err-hv.ensures.ok_part at c.pair.ensures in
    let said = rw c.in_err-hv.ensures.ok_part at c.in_err-hv.ensures.value in
    let at = refused_first (guard_wrong (hv ws) ws) 0 4 (λ j. GuardWord (guard_place j)) 0 (omega arith) (omega arith) (guard_none (hv ws) ws 0 (omega arith)) (λ j l h. absurd (omega arith)) in
    handed_on c.from_residual.result _ c.from_residual.ensures.1 ∙ said ∙ ap (λ (v : Verdict). answered v (Ok (hv ws)) Err) (sym at)

pub returns-then-words-at : goal.returns-then-words-at
returns-then-words-at c =
    let ws : List ℕ = c.args.words.now in
    let i : ℕ = c.loop-at.at-index in
    let pair = rw c.in_ok-hv.ensures.ok_part at c.pair.ensures in
    let small : hv ws < 4 = omega (arith, pair) in
    let e = place i (omega arith) in
    let other = guard_other (hv ws) ws (i + 1) (λ z. c.if-words-at.true (ap (λ (m : ℕ). get_or ws m 0) e ∙ z ∙ sym (pair_right (get_or ws 0 0) small))) in
    let at = refused_first (guard_wrong (hv ws) ws) 0 4 (λ j. GuardWord (guard_place j)) (i + 1) (omega arith) (omega arith) other (λ j l h. right ws small j (c.loop-at.invariant j (omega arith))) in
    ap (λ (m : ℕ). Err (GuardWord m)) e ∙ ap (λ (v : Verdict). answered v (Ok (hv ws)) Err) (sym at)

pub returns : goal.returns
returns c =
    let ws : List ℕ = c.args.words.now in
    let pair = rw c.in_ok-hv.ensures.ok_part at c.pair.ensures in
    let small : hv ws < 4 = omega (arith, pair) in
    let at = refused_none (guard_wrong (hv ws) ws) 0 4 (λ j. GuardWord (guard_place j)) (λ j l h. right ws small j (c.loop-at.invariant j (omega arith))) in
    ap Ok pair.0 ∙ ap (λ (v : Verdict). answered v (Ok (hv ws)) Err) (sym at)
