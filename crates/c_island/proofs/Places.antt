-- The place of a refused island is the index of a word or of a subpacket, so the answer's 32 bits are all of it.
use mathlib.Core.Path.{◌≡◌}
use mathlib.Core.Bool.{Bool, true, false, not}
use mathlib.Core.List.{List, [], ◌∷◌}
use Prim.Native.Nat.{ℕ, zero, suc, ◌%◌, ◌^◌, ◌≤◌}
use native.Mathlib.Nat.{mod-eq_of_lt}
use native.Mathlib.Omega.{arith}
use lib.ListN.{get_or}
use Rattle.laws.specs.Search.{first}
use Rattle.laws.proofs.Searching.{first_le}
use Rattle.hdmi.specs.Parity.{right}
use Rattle.hdmi.specs.Packet.{subpacket}
use Rattle.refusal.specs.declared.Refusal.{Refusal}
use Rattle.refusal.specs.Refusal.{place_of}
use Rattle.refusal.specs.Verdict.{Ask, unless, verdict, verdict_place, Verdict}
use Rattle.island_reader.specs.Found.{pair_of, packet_found}
use Rattle.island_reader.specs.Read.{nowhere, word_asks, high_bits, guard_place, guard_wrong, lane_wrong, sync_wrong}
use Rattle.c_island.specs.Asks.{words_in, read_island_asks}

-- no question's refusal is past m
abbrev Within : ℕ → List Ask → Type 0
Within m [] = Unit {0}
Within m (q ∷ qs) = (place_of q.otherwise ≤ m) × Within m qs

one : (b : Bool) (r : Refusal) (v : Verdict) (m : ℕ) → place_of r ≤ m → verdict_place v ≤ m → verdict_place (unless b r v) ≤ m
one true r v m h l = l
one false r v m h l = h

within : (m : ℕ) (qs : List Ask) → Within m qs → verdict_place (verdict qs) ≤ m
within m [] w = omega arith
within m (q ∷ qs) w = one q.holds q.otherwise (verdict qs) m w.0 (within m qs w.1)

guard_le : (j : ℕ) → guard_place j ≤ 36
guard_le zero = omega arith
guard_le (suc zero) = omega arith
guard_le (suc (suc zero)) = omega arith
guard_le (suc (suc (suc j))) = omega arith

module _ (lent packet : List ℕ) where
  pub island_place : verdict_place (verdict (read_island_asks lent packet)) ≤ 36
  unfolding nowhere word_asks
  island_place =
      let ws : List ℕ = words_in lent in
      let hv : ℕ = pair_of (get_or ws 0 0) in
      let sub : ℕ → Bool = λ s. not (right 7 (subpacket s (packet_found ws))) in
      let lane : first (lane_wrong ws) 2 32 ≤ 36 = let l = first_le (lane_wrong ws) 2 32 in omega arith in
      let sync : first (sync_wrong hv ws) 2 32 ≤ 36 = let l = first_le (sync_wrong hv ws) 2 32 in omega arith in
      let last : first sub 0 4 ≤ 36 = let l = first_le sub 0 4 in omega arith in
      let none : 0 ≤ 36 = omega arith in
      within 36 (read_island_asks lent packet)
      (none, (none, (none, (first_le (high_bits ws) 0 36, (guard_le (first (guard_wrong hv ws) 0 4), (lane, (sync, (none, (last, tt)))))))))

  pub island_place_whole : verdict_place (verdict (read_island_asks lent packet)) % 2 ^ 32 ≡ verdict_place (verdict (read_island_asks lent packet))
  island_place_whole = let h = island_place in mod-eq_of_lt (omega arith)
