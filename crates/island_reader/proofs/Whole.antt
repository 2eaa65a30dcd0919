-- Of an island nothing is refused before its parity.
use mathlib.Core.Path.{◌≡◌, sym, ap, subst, ◌∙◌}
use mathlib.Core.Bool.{Bool, true, false, not}
use mathlib.Core.List.{List}
use Prim.Native.Nat.{ℕ, zero, suc, ◌+◌, ◌-◌, ◌*◌, ◌/◌, ◌%◌, ◌^◌, ◌≤◌, ◌<◌}
use native.Mathlib.Omega.{arith}
use borrow.Author.Tests.{lt-ltb, eq-eqb}
use lib.Dec.{eqb}
use lib.ListN.{get_or}
use Rattle.std.specs.Prelude.{Ok}
use Rattle.refusal.specs.declared.Refusal.TheVariants.{HighBits, GuardWord, NotTerc4, SyncBits}
use Rattle.refusal.specs.Verdict.{verdict}
use Rattle.hdmi.specs.Island.{guard_word, marker, data_word, island}
use Rattle.hdmi.proofs.Island.{island_at, data_at, guard_low, guard_high, every_word, zero_lt, across_lt, guard_lt, data_lt, on_lane_0, on_lane_1, on_lane_2, tells_pair, tells_marker}
use Rattle.island_reader.specs.Found.{pair_of, number_on, unread}
use Rattle.island_reader.specs.Read.{high_bits, guard_place, guard_wrong, lane_wrong, sync_wrong, high_ask, guard_ask, lane_ask, sync_ask, word_asks}
use Rattle.island_reader.proofs.Nibbles.{read_all}
use Rattle.island_reader.proofs.Nowhere.{holds_where}
use Rattle.island_reader.proofs.SyncPairs.{pair_guard, guard_fine}

module _ (hv : ℕ) (p : List ℕ) (pair : hv < 4) where
  abbrev ws : List ℕ
  ws = island hv p

  word_0 : get_or ws 0 0 ≡ guard_word hv
  word_0 = island_at hv p 0 (omega arith) ∙ guard_low hv p 0 (omega arith)

  pub pair_found : pair_of (get_or ws 0 0) ≡ hv
  pair_found = ap pair_of word_0 ∙ pair_guard hv pair

  data_word_lem : (k : ℕ) → k < 32 → get_or ws (2 + k) 0 ≡ data_word hv p k
  data_word_lem k h = island_at hv p (2 + k) (omega arith) ∙ data_at hv p k h

  -- ---- 30 bits

  low : (w : ℕ) → w < 2 ^ 30 → not (eqb (w / 2 ^ 30) 0) ≡ false
  low w h = ap not (eq-eqb (w / 2 ^ 30) 0 (omega arith))

  no_high_bits : (i : ℕ) → i < 36 → high_bits ws i ≡ false
  no_high_bits i h =
      ap (λ (w : ℕ). not (eqb (w / 2 ^ 30) 0)) (island_at hv p i h)
      ∙ every_word hv p (λ (i w : ℕ). not (eqb (w / 2 ^ 30) 0) ≡ false) (λ i h. low (guard_word hv) (guard_lt hv pair)) (λ i h. low (guard_word hv) (guard_lt hv pair))
      (λ k h. low (data_word hv p k) (data_lt hv p k pair)) i

  -- ---- the guard words

  guard_at : (j : ℕ) → j < 4 → get_or ws (guard_place j) 0 ≡ guard_word hv
  guard_at zero h = word_0
  guard_at (suc zero) h = island_at hv p 1 (omega arith) ∙ guard_low hv p 1 (omega arith)
  guard_at (suc (suc zero)) h = island_at hv p 34 (omega arith) ∙ guard_high hv p 34 (omega arith)
  guard_at (suc (suc (suc zero))) h = island_at hv p 35 (omega arith) ∙ guard_high hv p 35 (omega arith)
  guard_at (suc (suc (suc (suc j)))) h = absurd (omega arith)

  -- ---- the words of data

  lanes-read : (k : ℕ) → unread (data_word hv p k) ≡ false
  lanes-read k =
      read_all (data_word hv p k) (λ e. omega (arith, on_lane_0 hv p k pair, zero_lt hv p k pair))
      (λ e. omega (arith, on_lane_1 hv p k pair, across_lt p (2 * k))) (λ e. omega (arith, on_lane_2 hv p k pair, across_lt p (2 * k + 1)))

  in_sync : (k : ℕ) → k < 32 → sync_wrong hv ws (2 + k) ≡ false
  in_sync k h =
      let w : ℕ = data_word hv p k in
      let place : 2 + k - 2 ≡ k = omega arith in
      let e = data_word_lem k h in
      let a = ap (λ (x : ℕ). number_on 0 x % 4) e ∙ tells_pair hv p k pair in
      let b = ap (λ (x : ℕ). number_on 0 x / 8 * 8) e ∙ tells_marker hv p k pair ∙ ap marker (sym place) in
      simp (lt-ltb hv 4 pair, eq-eqb (number_on 0 (get_or ws (2 + k) 0) % 4) hv a, eq-eqb (number_on 0 (get_or ws (2 + k) 0) / 8 * 8) (marker (2 + k - 2)) b)

  -- a test that fails at each of words 2 to 33
  on_data : (f : ℕ → Bool) → ((k : ℕ) → k < 32 → f (2 + k) ≡ false) → (i : ℕ) → 2 ≤ i → i < 34 → f i ≡ false
  on_data f h i l u =
      let e : 2 + (i - 2) ≡ i = omega arith in
      subst (λ (j : ℕ). f j ≡ false) e (h (i - 2) (omega arith))

  holds_all : (high_ask ws).holds ≡ true
  holds_all = holds_where (high_bits ws) 0 36 HighBits (λ i l u. no_high_bits i u)

  holds_guards : (guard_ask hv ws).holds ≡ true
  holds_guards = holds_where (guard_wrong hv ws) 0 4 (λ j. GuardWord (guard_place j)) (λ j l u. guard_fine hv ws j pair (guard_at j u))

  holds_lanes : (lane_ask ws).holds ≡ true
  holds_lanes = holds_where (lane_wrong ws) 2 32 NotTerc4 (on_data (lane_wrong ws) (λ k h. ap unread (data_word_lem k h) ∙ lanes-read k))

  holds_sync : (sync_ask hv ws).holds ≡ true
  holds_sync = holds_where (sync_wrong hv ws) 2 32 SyncBits (on_data (sync_wrong hv ws) in_sync)

  pub island_passes : verdict (word_asks (island hv p)) ≡ Ok tt
  unfolding word_asks
  island_passes =
      let g : (guard_ask (pair_of (get_or ws 0 0)) ws).holds ≡ true = ap (λ (h : ℕ). (guard_ask h ws).holds) pair_found ∙ holds_guards in
      let s : (sync_ask (pair_of (get_or ws 0 0)) ws).holds ≡ true = ap (λ (h : ℕ). (sync_ask h ws).holds) pair_found ∙ holds_sync in
      simp (holds_all, g, holds_lanes, s)
