-- The blocks of a packet: what is put together comes apart again, with right parity; and a right packet is what its data bytes make.
use mathlib.Core.Path.{◌≡◌, refl, sym, subst}
use mathlib.Core.Bool.{◌&&◌}
use mathlib.Core.List.{List, [], ◌∷◌, ◌++◌}
use Prim.Native.Nat.{ℕ, zero, suc, ◌<◌}
use native.Mathlib.Omega.{arith}
use lib.Dec.{T, eqb, eqb→eq}
use lib.ListN.{length, get_or, take, length-take, length-drop}
use borrow.Author.Tests.{eq-eqb}
use Rattle.laws.proofs.Truth.{true_T, and_left, and_right, and_both}
use Rattle.laws.proofs.Everywhere.{each_all}
use Rattle.laws.proofs.Finite.{all, below}
use Rattle.laws.proofs.Spines.{spine, on_spine}
use Rattle.hdmi.specs.Parity.{parity, with_parity, right}
use Rattle.hdmi.specs.Packet.{header, subpacket, packet_of, sealed, RightPacket, right_packet}
use Rattle.hdmi.proofs.Parity.{with_right, right-parity}

-- five blocks end to end
abbrev joined : List ℕ → List ℕ → List ℕ → List ℕ → List ℕ → List ℕ
joined h a b c d = with_parity h ++ (with_parity a ++ (with_parity b ++ (with_parity c ++ with_parity d)))

-- ---- a packet put together

module _ (h : List ℕ) (f : ℕ → List ℕ) (eh : length h ≡ 3) (ef : (s : ℕ) → s < 4 → length (f s) ≡ 7) where
  -- what holds with the five blocks spelled out
  on_blocks : (P : List ℕ → List ℕ → List ℕ → List ℕ → List ℕ → Type 0)
      → P (spine 3 h) (spine 7 (f 0)) (spine 7 (f 1)) (spine 7 (f 2)) (spine 7 (f 3)) → P h (f 0) (f 1) (f 2) (f 3)
  on_blocks P p =
      on_spine 3 (λ h. P h (f 0) (f 1) (f 2) (f 3)) h eh
      (on_spine 7 (λ a. P (spine 3 h) a (f 1) (f 2) (f 3)) (f 0) (ef 0 (omega arith))
      (on_spine 7 (λ b. P (spine 3 h) (spine 7 (f 0)) b (f 2) (f 3)) (f 1) (ef 1 (omega arith))
      (on_spine 7 (λ c. P (spine 3 h) (spine 7 (f 0)) (spine 7 (f 1)) c (f 3)) (f 2) (ef 2 (omega arith))
      (on_spine 7 (λ d. P (spine 3 h) (spine 7 (f 0)) (spine 7 (f 1)) (spine 7 (f 2)) d) (f 3) (ef 3 (omega arith)) p))))

  pub packet_length : length (packet_of h f) ≡ 36
  unfolding packet_of with_parity
  packet_length = on_blocks (λ h a b c d. length (joined h a b c d) ≡ 36) refl

  pub packet_header : header (packet_of h f) ≡ with_parity h
  unfolding packet_of with_parity
  packet_header = on_blocks (λ h a b c d. header (joined h a b c d) ≡ with_parity h) refl

  pub packet_subpacket : (s : ℕ) → s < 4 → subpacket s (packet_of h f) ≡ with_parity (f s)
  unfolding packet_of with_parity
  packet_subpacket zero l = on_blocks (λ h a b c d. subpacket 0 (joined h a b c d) ≡ with_parity a) refl
  packet_subpacket (suc zero) l = on_blocks (λ h a b c d. subpacket 1 (joined h a b c d) ≡ with_parity b) refl
  packet_subpacket (suc (suc zero)) l = on_blocks (λ h a b c d. subpacket 2 (joined h a b c d) ≡ with_parity c) refl
  packet_subpacket (suc (suc (suc zero))) l = on_blocks (λ h a b c d. subpacket 3 (joined h a b c d) ≡ with_parity d) refl
  packet_subpacket (suc (suc (suc (suc s)))) l = absurd (omega arith)

  pub packet_right : RightPacket (packet_of h f)
  packet_right =
      record {
        size = packet_length;
        right_header = subst (λ b. T (right 3 b)) (sym packet_header) (with_right 3 h eh);
        right_subpacket = λ s l. subst (λ b. T (right 7 b)) (sym (packet_subpacket s l)) (with_right 7 (f s) (ef s l));
      }

-- ---- a packet given

-- a packet is its five blocks, each with its last byte
apart : (p : List ℕ) → length p ≡ 36
    → p
    ≡ (take 3 (header p) ++ (get_or (header p) 3 0 ∷ []))
    ++ ((take 7 (subpacket 0 p) ++ (get_or (subpacket 0 p) 7 0 ∷ []))
    ++ ((take 7 (subpacket 1 p) ++ (get_or (subpacket 1 p) 7 0 ∷ []))
    ++ ((take 7 (subpacket 2 p) ++ (get_or (subpacket 2 p) 7 0 ∷ []))
    ++ (take 7 (subpacket 3 p) ++ (get_or (subpacket 3 p) 7 0 ∷ [])))))
apart p e =
    on_spine 36
    (λ p. p
    ≡ (take 3 (header p) ++ (get_or (header p) 3 0 ∷ []))
    ++ ((take 7 (subpacket 0 p) ++ (get_or (subpacket 0 p) 7 0 ∷ []))
    ++ ((take 7 (subpacket 1 p) ++ (get_or (subpacket 1 p) 7 0 ∷ []))
    ++ ((take 7 (subpacket 2 p) ++ (get_or (subpacket 2 p) 7 0 ∷ []))
    ++ (take 7 (subpacket 3 p) ++ (get_or (subpacket 3 p) 7 0 ∷ []))))))
    p e refl

-- a right packet is what its data bytes make
pub right-sealed : (p : List ℕ) → RightPacket p → p ≡ sealed p
unfolding packet_of with_parity
right-sealed p r =
    let h = right-parity 3 (header p) r.right_header in
    let s : (k : ℕ) → k < 4 → parity (take 7 (subpacket k p)) ≡ get_or (subpacket k p) 7 0 =
    λ k l. right-parity 7 (subpacket k p) (r.right_subpacket k l) in
    rw (h, s 0 (omega arith), s 1 (omega arith), s 2 (omega arith), s 3 (omega arith)) (apart p r.size)

-- and what its data bytes make is right
pub sealed-right : (p : List ℕ) → length p ≡ 36 → RightPacket (sealed p)
sealed-right p e =
    packet_right (take 3 (header p)) (λ s. take 7 (subpacket s p)) (simp length-take (omega arith))
    (λ s l. simp (length-take, length-drop) (omega arith))

pub right_test : (p : List ℕ) → RightPacket p → T (right_packet p)
right_test p r =
    and_both (eqb (length p) 36) (right 3 (header p) && all (λ s. right 7 (subpacket s p)) 4) (true_T (eq-eqb (length p) 36 r.size))
    (and_both (right 3 (header p)) (all (λ s. right 7 (subpacket s p)) 4) r.right_header
    (each_all (λ s. right 7 (subpacket s p)) 4 r.right_subpacket))

pub test_right : (p : List ℕ) → T (right_packet p) → RightPacket p
test_right p t =
    let blocks = and_right (eqb (length p) 36) (right 3 (header p) && all (λ s. right 7 (subpacket s p)) 4) t in
    record {
      size = eqb→eq (length p) 36 (and_left (eqb (length p) 36) (right 3 (header p) && all (λ s. right 7 (subpacket s p)) 4) t);
      right_header = and_left (right 3 (header p)) (all (λ s. right 7 (subpacket s p)) 4) blocks;
      right_subpacket = below (λ s. right 7 (subpacket s p)) 4 (and_right (right 3 (header p)) (all (λ s. right 7 (subpacket s p)) 4) blocks);
    }
