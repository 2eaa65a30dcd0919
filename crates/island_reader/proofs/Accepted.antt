-- The reader accepts exactly the encodings of packets with right parity, and answers that sync pair and that packet; no second answer fits.
use mathlib.Core.Path.{◌≡◌, refl, sym, ap, subst, ◌∙◌}
use mathlib.Core.Bool.{true, not}
use mathlib.Core.List.{List, [], ◌∷◌, ◌++◌}
use Prim.Native.Nat.{ℕ, ◌<◌}
use native.Mathlib.Omega.{arith}
use borrow.Author.Tests.{eqb-true, not-false}
use lib.Dec.{eqb}
use lib.ListN.{length, get_or}
use Rattle.std.specs.Prelude.{Ok, Err}
use Rattle.laws.proofs.Truth.{true_T, T_true}
use Rattle.refusal.specs.declared.Refusal.TheVariants.{Length, HeaderParity, SubpacketParity}
use Rattle.refusal.specs.Verdict.{Ask, ask, verdict, answered, kept, Verdict}
use Rattle.refusal.proofs.Verdicts.{joined, goes_on}
use Rattle.hdmi.specs.Parity.{right}
use Rattle.hdmi.specs.Packet.{header, subpacket, RightPacket}
use Rattle.hdmi.specs.Island.{island}
use Rattle.hdmi.proofs.Island.{length-island}
use Rattle.hdmi.proofs.Once.{pair_once, packet_once}
use Rattle.island_reader.specs.Exact.{Encodes}
use Rattle.island_reader.specs.Found.{pair_of, packet_found}
use Rattle.island_reader.specs.Read.{nowhere, word_asks, parity_asks, read_asks, read_answer, read_out}
use Rattle.island_reader.proofs.Agree.{length_found}
use Rattle.refusal.proofs.Upward.{passed, both_fine}
use Rattle.island_reader.proofs.Chain.{all_asked}
use Rattle.island_reader.proofs.Nowhere.{holds_means, holds_where}
use Rattle.island_reader.proofs.Sound.{found_lt, pair_lt, sound}
use Rattle.island_reader.proofs.Whole.{pair_found, island_passes}

-- ---- parity

abbrev block_ask : List ℕ → Ask
block_ask p = nowhere (λ s. not (right 7 (subpacket s p))) 0 4 SubpacketParity

parity-right : (p : List ℕ) → length p ≡ 36 → verdict (parity_asks p) ≡ Ok tt → RightPacket p
parity-right p l e =
    let a = passed (ask (right 3 (header p)) HeaderParity) (block_ask p ∷ []) e in
    let b = passed (block_ask p) [] a.1 in
    record {
      size = l;
      right_header = true_T a.0;
      right_subpacket = λ s h. true_T (not-false (right 7 (subpacket s p)) (holds_means (λ s. not (right 7 (subpacket s p))) 0 4 SubpacketParity b.0 s (omega arith) h));
    }

right-parity : (p : List ℕ) → RightPacket p → verdict (parity_asks p) ≡ Ok tt
right-parity p r =
    let a : right 3 (header p) ≡ true = T_true r.right_header in
    let b : (block_ask p).holds ≡ true =
    holds_where (λ s. not (right 7 (subpacket s p))) 0 4 SubpacketParity (λ s l h. ap not (T_true {b = right 7 (subpacket s p)} (r.right_subpacket s h))) in
    simp (a, b)

-- ---- a yes

fine_by : (v : Verdict) (h k : ℕ) → answered v (Ok k) Err ≡ Ok h → (v ≡ Ok tt) × (k ≡ h)
fine_by (Ok _) h k e = (refl, cc)
fine_by (Err r) h k e = let z : ◌≡◌ {A = ℕ} 0 1 = cc in absurd (omega arith)

module _ (ws out : List ℕ) where
  abbrev rest : List Ask
  rest = word_asks ws ++ parity_asks (packet_found ws)

  all_passed : verdict (read_asks ws out) ≡ Ok tt → (length ws ≡ 36) × (length out ≡ 36) × (verdict (word_asks ws) ≡ Ok tt) × (verdict (parity_asks (packet_found ws)) ≡ Ok tt)
  all_passed e =
      let a = passed (ask (eqb (length ws) 36) Length) (ask (eqb (length out) 36) Length ∷ rest) e in
      let b = passed (ask (eqb (length out) 36) Length) rest a.1 in
      let c = both_fine (word_asks ws) (parity_asks (packet_found ws)) b.1 in
      (eqb-true (length ws) 36 a.0, eqb-true (length out) 36 b.0, c.0, c.1)

  -- what is accepted is the encoding of what is answered
  pub accepted : (hv : ℕ) → read_answer ws out ≡ Ok hv → (length out ≡ 36) × Encodes hv (read_out ws out) ws
  accepted hv e =
      let f = fine_by (verdict (read_asks ws out)) hv (pair_of (get_or ws 0 0)) e in
      let a = all_passed f.0 in
      let same : read_out ws out ≡ packet_found ws = ap (λ (v : Verdict). kept v (packet_found ws) out) f.0 in
      let encodes : Encodes (pair_of (get_or ws 0 0)) (packet_found ws) ws =
      record {
        pair = pair_lt ws a.0 a.2;
        right_packet = parity-right (packet_found ws) (length_found ws) a.3;
        bytes = found_lt ws;
        same = sound ws a.0 a.2;
      } in
      (a.1, subst (λ (h : ℕ). Encodes h (read_out ws out) ws) f.1 (subst (λ (p : List ℕ). Encodes (pair_of (get_or ws 0 0)) p ws) (sym same) encodes))

-- no second sync pair and no second packet has the same encoding
pub encodes_once : (hv hw : ℕ) (p q ws : List ℕ) → Encodes hv p ws → Encodes hw q ws → (hv ≡ hw) × (p ≡ q)
encodes_once hv hw p q ws a b =
    let e : island hv p ≡ island hw q = sym a.same ∙ b.same in (
      pair_once hv hw p q a.pair b.pair e,
      packet_once hv hw p q a.pair b.pair e a.right_packet.size b.right_packet.size a.bytes b.bytes,
    )

-- ---- reading what was written

module _ (hv : ℕ) (p : List ℕ) (pair : hv < 4) (size : length p ≡ 36) (bytes : (m : ℕ) → get_or p m 0 < 256) where
  -- the island's bits are found again: it is an island of what is found in it, and there is no other
  pub found_again : packet_found (island hv p) ≡ p
  found_again =
      let ws : List ℕ = island hv p in
      let s : ws ≡ island hv (packet_found ws) =
      sound ws (length-island hv p) (island_passes hv p pair) ∙ ap (λ (h : ℕ). island h (packet_found ws)) (pair_found hv p pair) in
      sym (packet_once hv hv p (packet_found ws) pair pair s size (length_found ws) bytes (found_lt ws))

-- every encoding is accepted, with its own sync pair and its own packet
pub accepts : (hv : ℕ) (p ws out : List ℕ) → Encodes hv p ws → length out ≡ 36 → (read_answer ws out ≡ Ok hv) × (read_out ws out ≡ p)
accepts hv p ws out e l =
    let back : packet_found ws ≡ p = ap packet_found e.same ∙ found_again hv p e.pair e.right_packet.size e.bytes in
    let pair : pair_of (get_or ws 0 0) ≡ hv = ap (λ (l : List ℕ). pair_of (get_or l 0 0)) e.same ∙ pair_found hv p e.pair in
    let words : verdict (word_asks ws) ≡ Ok tt = ap (λ (l : List ℕ). verdict (word_asks l)) e.same ∙ island_passes hv p e.pair in
    let parity : verdict (parity_asks (packet_found ws)) ≡ Ok tt = ap (λ (q : List ℕ). verdict (parity_asks q)) back ∙ right-parity p e.right_packet in
    let fine : verdict (read_asks ws out) ≡ Ok tt =
    all_asked ws out (ap length e.same ∙ length-island hv p) l ∙ joined (word_asks ws) (parity_asks (packet_found ws)) ∙ goes_on words ∙ parity in (
      ap (λ (v : Verdict). answered v (Ok (pair_of (get_or ws 0 0))) Err) fine ∙ ap Ok pair,
      ap (λ (v : Verdict). kept v (packet_found ws) out) fine ∙ back,
    )
