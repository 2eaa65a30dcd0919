-- One question after the other: the first refusal is that of all, and what holds where nothing was refused.
use mathlib.Core.Path.{◌≡◌, refl, ap, ◌∙◌}
use mathlib.Core.Bool.{true, false, ◌&&◌}
use mathlib.Core.List.{List, [], ◌∷◌, ◌++◌}
use Prim.Native.Nat.{ℕ, ◌+◌, ◌<◌}
use native.Mathlib.Omega.{arith}
use borrow.Author.Tests.{ltb-true, eqb-true, eq-eqb, not-false}
use lib.Dec.{eqb, ltb}
use lib.ListN.{length, get_or}
use Rattle.std.specs.Prelude.{Result, Ok, Err}
use Rattle.std.specs.Result.{IsErrAnd}
use Rattle.laws.proofs.Truth.{true_T, T_true, and_left, and_right}
use Rattle.refusal.specs.declared.Refusal.{Refusal}
use Rattle.refusal.specs.declared.Refusal.TheVariants.{GuardWord, NotTerc4}
use Rattle.refusal.specs.Verdict.{Ask, verdict, answered, Verdict}
use Rattle.refusal.proofs.Upward.{passed}
use Rattle.refusal.proofs.Verdicts.{joined, stops, goes_on}
use Rattle.hdmi.specs.Island.{guard_word}
use Rattle.island_reader.specs.Found.{pair_of, unread, packet_found}
use Rattle.island_reader.specs.Read.{guard_place, guard_wrong, lane_wrong, high_ask, guard_ask, lane_ask, sync_ask, word_asks, parity_asks, read_asks}
use Rattle.island_reader.proofs.Nowhere.{holds_means}

-- ---- what `?` hands on

pub handed_on : {T : Type 0} (r : Result T Refusal) (e : Refusal) → IsErrAnd r (λ f. f ≡ e) → r ≡ Err e
handed_on (Ok v) e h = absurd h
handed_on (Err f) e h = ap Err h

-- ---- an answer, taken apart

pub answered_err : {A : Type 0} (v : Verdict) (a : A) (r : Refusal) → answered v (Ok a) Err ≡ Err r → v ≡ Err r
answered_err (Ok _) a r e = let z : ◌≡◌ {A = ℕ} 0 1 = cc in absurd (omega arith)
answered_err (Err s) a r e = ap Err cc

pub answered_ok : {A : Type 0} (v : Verdict) (a b : A) → answered v (Ok a) Err ≡ Ok b → (v ≡ Ok tt) × (a ≡ b)
answered_ok (Ok _) a b e = (refl, cc)
answered_ok (Err r) a b e = let z : ◌≡◌ {A = ℕ} 0 1 = cc in absurd (omega arith)

-- ---- a list of questions by its first

pub first_refuses : (q : Ask) (qs : List Ask) {r : Refusal} → verdict (q ∷ []) ≡ Err r → verdict (q ∷ qs) ≡ Err r
first_refuses q qs e = joined (q ∷ []) qs ∙ stops (verdict qs) e

pub first_passes : (q : Ask) (qs : List Ask) → verdict (q ∷ []) ≡ Ok tt → verdict (q ∷ qs) ≡ verdict qs
first_passes q qs e = joined (q ∷ []) qs ∙ goes_on e

pub fine_holds : (q : Ask) → verdict (q ∷ []) ≡ Ok tt → q.holds ≡ true
fine_holds q e = (passed q [] e).0

-- ---- four of them

module _ (a b c d : Ask) {r : Refusal} where
  pub second_refuses : verdict (a ∷ []) ≡ Ok tt → verdict (b ∷ []) ≡ Err r → verdict (a ∷ b ∷ c ∷ d ∷ []) ≡ Err r
  second_refuses x y = first_passes a (b ∷ c ∷ d ∷ []) x ∙ first_refuses b (c ∷ d ∷ []) y

  pub third_refuses : verdict (a ∷ []) ≡ Ok tt → verdict (b ∷ []) ≡ Ok tt → verdict (c ∷ []) ≡ Err r → verdict (a ∷ b ∷ c ∷ d ∷ []) ≡ Err r
  third_refuses x y z = first_passes a (b ∷ c ∷ d ∷ []) x ∙ first_passes b (c ∷ d ∷ []) y ∙ first_refuses c (d ∷ []) z

pub fourth_decides : (a b c d : Ask) → verdict (a ∷ []) ≡ Ok tt → verdict (b ∷ []) ≡ Ok tt → verdict (c ∷ []) ≡ Ok tt
    → verdict (a ∷ b ∷ c ∷ d ∷ []) ≡ verdict (d ∷ [])
fourth_decides a b c d x y z = first_passes a (b ∷ c ∷ d ∷ []) x ∙ first_passes b (c ∷ d ∷ []) y ∙ first_passes c (d ∷ []) z

-- ---- what the words have passed

module _ (ws : List ℕ) where
  abbrev pub hv : ℕ
  hv = pair_of (get_or ws 0 0)

  pub words_passed : verdict (word_asks ws) ≡ Ok tt
      → ((high_ask ws).holds ≡ true) × ((guard_ask hv ws).holds ≡ true) × ((lane_ask ws).holds ≡ true) × ((sync_ask hv ws).holds ≡ true)
  unfolding word_asks
  words_passed e =
      let a = passed (high_ask ws) (guard_ask hv ws ∷ lane_ask ws ∷ sync_ask hv ws ∷ []) e in
      let b = passed (guard_ask hv ws) (lane_ask ws ∷ sync_ask hv ws ∷ []) a.1 in
      let c = passed (lane_ask ws) (sync_ask hv ws ∷ []) b.1 in
      let d = passed (sync_ask hv ws) [] c.1 in
      (a.0, b.0, c.0, d.0)

pub guard_right : (hv : ℕ) (ws : List ℕ) → (guard_ask hv ws).holds ≡ true → (j : ℕ) → j < 4 → (hv < 4) × (get_or ws (guard_place j) 0 ≡ guard_word hv)
guard_right hv ws e j h =
    let w : ℕ = get_or ws (guard_place j) 0 in
    let f = holds_means (guard_wrong hv ws) 0 4 (λ j. GuardWord (guard_place j)) e j (omega arith) h in
    let t = true_T (not-false (ltb hv 4 && eqb w (guard_word hv)) f) in
    (ltb-true hv 4 (T_true (and_left (ltb hv 4) (eqb w (guard_word hv)) t)), eqb-true w (guard_word hv) (T_true (and_right (ltb hv 4) (eqb w (guard_word hv)) t)))

pub lanes-right : (ws : List ℕ) → (lane_ask ws).holds ≡ true → (k : ℕ) → k < 32 → unread (get_or ws (2 + k) 0) ≡ false
lanes-right ws e k h = holds_means (lane_wrong ws) 2 32 NotTerc4 e (2 + k) (omega arith) (omega arith)

-- ---- the words' four questions, and then the packet's

module _ (ws : List ℕ) where
  abbrev pub asks : List Ask
  asks = high_ask ws ∷ guard_ask (hv ws) ws ∷ lane_ask ws ∷ sync_ask (hv ws) ws ∷ []

  abbrev pub all_asks : List Ask
  all_asks = word_asks ws ++ parity_asks (packet_found ws)

  pub of_words : {v : Verdict} → verdict asks ≡ v → verdict (word_asks ws) ≡ v
  unfolding word_asks
  of_words e = e

  pub words_refuse : {r : Refusal} → verdict asks ≡ Err r → verdict (word_asks ws ++ parity_asks (packet_found ws)) ≡ Err r
  words_refuse e =
      joined (word_asks ws) (parity_asks (packet_found ws)) ∙ stops (verdict (parity_asks (packet_found ws))) (of_words e)

  pub words_pass : verdict asks ≡ Ok tt → verdict (word_asks ws ++ parity_asks (packet_found ws)) ≡ verdict (parity_asks (packet_found ws))
  words_pass e = joined (word_asks ws) (parity_asks (packet_found ws)) ∙ goes_on (of_words e)

-- ---- the whole entry, where the lengths are right

module _ (ws out : List ℕ) (lw : length ws ≡ 36) (lo : length out ≡ 36) where
  pub all_asked : verdict (read_asks ws out) ≡ verdict (word_asks ws ++ parity_asks (packet_found ws))
  all_asked = simp (eq-eqb (length ws) 36 lw, eq-eqb (length out) 36 lo)
