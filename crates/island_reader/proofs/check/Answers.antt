-- `island_reader::check` meets its contract.
use mathlib.Core.Path.{◌≡◌, sym, ap, ap₂, subst, ◌∙◌}
use mathlib.Core.Bool.{false}
use mathlib.Core.List.{List, [], ◌∷◌}
use Prim.Native.Nat.{ℕ, ◌+◌, ◌<◌}
use native.Mathlib.Omega.{arith}
use lib.ListN.{get_or}
use Rattle.std.specs.Prelude.{Result, Ok, Err, OnOk}
use Rattle.refusal.specs.declared.Refusal.{Refusal}
use Rattle.refusal.specs.declared.Refusal.TheVariants.{SyncBits}
use Rattle.refusal.specs.Verdict.{Verdict, verdict, answered}
use Rattle.island_reader.specs.Found.{unread, packet_found}
use Rattle.island_reader.specs.Numbers.{numbers_in, packet_in, sync_unlike}
use Rattle.island_reader.specs.Read.{nowhere, high_ask, guard_ask, lane_ask, sync_ask, parity_asks}
use Rattle.island_reader.proofs.Agree.{packet_agrees, sync-ask-agrees}
use Rattle.island_reader.proofs.Chain.{hv, all_asks, handed_on, answered_err, answered_ok, fine_holds, first_refuses, second_refuses, third_refuses, fourth_decides, words_refuse, words_pass, guard_right, lanes-right}
use Rattle.island_reader.proofs.check.Goals as goal

module _ (ws : List ℕ) where
  -- a refusal is handed on
  refuses : {v : Result ℕ Refusal} {r : Refusal} → v ≡ Err r → verdict (all_asks ws) ≡ Err r → v ≡ answered (verdict (all_asks ws)) (Ok (hv ws)) Err
  refuses d e = d ∙ ap (λ (v : Verdict). answered v (Ok (hv ws)) Err) (sym e)

  -- what is known behind the guard words, and behind the lanes
  pair_lt : verdict (guard_ask (hv ws) ws ∷ []) ≡ Ok tt → hv ws < 4
  pair_lt g = (guard_right (hv ws) ws (fine_holds (guard_ask (hv ws) ws) g) 0 (omega arith)).0

  clean : verdict (lane_ask ws ∷ []) ≡ Ok tt → (k : ℕ) → k < 32 → unread (get_or ws (2 + k) 0) ≡ false
  clean l = lanes-right ws (fine_holds (lane_ask ws) l)

  -- the numbers that the lanes left, where nothing is refused
  numbered : {v : Verdict} {found : List ℕ} → v ≡ Ok tt → OnOk v (found ≡ numbers_in ws) → numbers_in ws ≡ found
  numbered {found = found} e read = sym (subst (λ (v : Verdict). OnOk v (found ≡ numbers_in ws)) e read)

  -- the sync bits, by the numbers
  module _ {h : ℕ} {found : List ℕ} (g : verdict (guard_ask (hv ws) ws ∷ []) ≡ Ok tt) (l : verdict (lane_ask ws ∷ []) ≡ Ok tt) (dh : hv ws ≡ h) (df : numbers_in ws ≡ found) where
    synced : verdict (nowhere (sync_unlike h found) 2 32 SyncBits ∷ []) ≡ verdict (sync_ask (hv ws) ws ∷ [])
    synced =
        sym (ap₂ (λ (h : ℕ) (ns : List ℕ). verdict (nowhere (sync_unlike h ns) 2 32 SyncBits ∷ [])) dh df)
        ∙ sync-ask-agrees ws (clean l) (hv ws) (pair_lt g)

    unpacked : packet_in found ≡ packet_found ws
    unpacked = ap packet_in (sym df) ∙ packet_agrees ws (clean l)

pub returns-in_err-high_bits-clause-answer : goal.returns-in_err-high_bits-clause-answer
returns-in_err-high_bits-clause-answer c =
    let ws : List ℕ = c.args.words.now in
    let e = first_refuses (high_ask ws) (guard_ask (hv ws) ws ∷ lane_ask ws ∷ sync_ask (hv ws) ws ∷ []) (sym c.high_bits.ensures ∙ c.in_err-high_bits.was) in
    refuses ws (handed_on c.from_residual.result _ c.from_residual.ensures.1) (words_refuse ws e)

pub returns-in_err-hv-clause-answer : goal.returns-in_err-hv-clause-answer
returns-in_err-hv-clause-answer c =
    let ws : List ℕ = c.args.words.now in
    let x = sym c.high_bits.ensures ∙ c.in_ok-high_bits.was in
    let g = answered_err (verdict (guard_ask (hv ws) ws ∷ [])) (hv ws) _ (sym c.guards.ensures ∙ c.in_err-hv.was) in
    let e = second_refuses (high_ask ws) (guard_ask (hv ws) ws) (lane_ask ws) (sync_ask (hv ws) ws) x g in
    refuses ws (handed_on c.from_residual-in_err-hv.result _ c.from_residual-in_err-hv.ensures.1) (words_refuse ws e)

pub returns-in_err-lanes-clause-answer : goal.returns-in_err-lanes-clause-answer
returns-in_err-lanes-clause-answer c =
    let ws : List ℕ = c.args.words.now in
    let x = sym c.high_bits.ensures ∙ c.in_ok-high_bits.was in
    let g = answered_ok (verdict (guard_ask (hv ws) ws ∷ [])) (hv ws) _ (sym c.guards.ensures ∙ c.in_ok-hv.was) in
    let l = sym c.lanes.ensures.answer ∙ c.in_err-lanes.was in
    let e = third_refuses (high_ask ws) (guard_ask (hv ws) ws) (lane_ask ws) (sync_ask (hv ws) ws) x g.0 l in
    refuses ws (handed_on c.from_residual-in_err-lanes.result _ c.from_residual-in_err-lanes.ensures.1) (words_refuse ws e)

pub sync-requires : goal.sync-requires
sync-requires c =
    let ws : List ℕ = c.args.words.now in
    let g = answered_ok (verdict (guard_ask (hv ws) ws ∷ [])) (hv ws) _ (sym c.guards.ensures ∙ c.in_ok-hv.was) in
    omega (arith, pair_lt ws g.0, g.1)

pub returns-in_err-sync-clause-answer : goal.returns-in_err-sync-clause-answer
returns-in_err-sync-clause-answer c =
    let ws : List ℕ = c.args.words.now in
    let x = sym c.high_bits.ensures ∙ c.in_ok-high_bits.was in
    let g = answered_ok (verdict (guard_ask (hv ws) ws ∷ [])) (hv ws) _ (sym c.guards.ensures ∙ c.in_ok-hv.was) in
    let l = sym c.lanes.ensures.answer ∙ c.in_ok-lanes.was in
    let n = numbered ws c.in_ok-lanes.was c.lanes.ensures.read in
    let s = sym (c.sync.ensures ∙ synced ws g.0 l g.1 n) ∙ c.in_err-sync.was in
    let e = fourth_decides (high_ask ws) (guard_ask (hv ws) ws) (lane_ask ws) (sync_ask (hv ws) ws) x g.0 l ∙ s in
    refuses ws (handed_on c.from_residual-in_err-sync.result _ c.from_residual-in_err-sync.ensures.1) (words_refuse ws e)

pub returns-in_err-blocks-clause-answer : goal.returns-in_err-blocks-clause-answer
returns-in_err-blocks-clause-answer c =
    let ws : List ℕ = c.args.words.now in
    let x = sym c.high_bits.ensures ∙ c.in_ok-high_bits.was in
    let g = answered_ok (verdict (guard_ask (hv ws) ws ∷ [])) (hv ws) _ (sym c.guards.ensures ∙ c.in_ok-hv.was) in
    let l = sym c.lanes.ensures.answer ∙ c.in_ok-lanes.was in
    let n = numbered ws c.in_ok-lanes.was c.lanes.ensures.read in
    let s = sym (c.sync.ensures ∙ synced ws g.0 l g.1 n) ∙ c.in_ok-sync.was in
    let e = fourth_decides (high_ask ws) (guard_ask (hv ws) ws) (lane_ask ws) (sync_ask (hv ws) ws) x g.0 l ∙ s in
    let p = c.unpack.ensures ∙ unpacked ws g.0 l g.1 n in
    let b = sym (c.blocks-2.ensures ∙ ap (λ (p : List ℕ). verdict (parity_asks p)) p) ∙ c.in_err-blocks.was in
    refuses ws (handed_on c.from_residual-in_err-blocks.result _ c.from_residual-in_err-blocks.ensures.1) (words_pass ws e ∙ b)

pub returns : goal.returns
returns c =
    let ws : List ℕ = c.args.words.now in
    let x = sym c.high_bits.ensures ∙ c.in_ok-high_bits.was in
    let g = answered_ok (verdict (guard_ask (hv ws) ws ∷ [])) (hv ws) _ (sym c.guards.ensures ∙ c.in_ok-hv.was) in
    let l = sym c.lanes.ensures.answer ∙ c.in_ok-lanes.was in
    let n = numbered ws c.in_ok-lanes.was c.lanes.ensures.read in
    let s = sym (c.sync.ensures ∙ synced ws g.0 l g.1 n) ∙ c.in_ok-sync.was in
    let e = fourth_decides (high_ask ws) (guard_ask (hv ws) ws) (lane_ask ws) (sync_ask (hv ws) ws) x g.0 l ∙ s in
    let p = c.unpack.ensures ∙ unpacked ws g.0 l g.1 n in
    let b = sym (c.blocks-2.ensures ∙ ap (λ (p : List ℕ). verdict (parity_asks p)) p) ∙ c.in_ok-blocks.was in
    record { answer = ap Ok (sym g.1) ∙ ap (λ (v : Verdict). answered v (Ok (hv ws)) Err) (sym (words_pass ws e ∙ b)); read = p }
