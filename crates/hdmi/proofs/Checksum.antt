-- The checksum of an info frame: all bytes of header and contents sum to 0 modulo 256, and no other byte does that.
use mathlib.Core.Path.{◌≡◌, refl, ap, ◌∙◌}
use mathlib.Core.List.{List, [], ◌∷◌, ◌++◌}
use Prim.Native.Nat.{ℕ, zero, suc, ◌+◌, ◌-◌, ◌*◌, ◌%◌, ◌<◌, ◌≤◌}
use native.Mathlib.Omega.{arith}
use lib.ListN.{length, take, drop, replicate, length-append, length-replicate}
use Rattle.laws.proofs.Spines.{spine, on_spine}
use Rattle.hdmi.specs.Parity.{with_parity}
use Rattle.hdmi.specs.Packet.{header, subpacket, packet_of}
use Rattle.hdmi.specs.Info.{sum, checksum, info_bytes, info_frame}

-- bytes 0..27 of a packet, as an info frame numbers them
abbrev pub contents : List ℕ → List ℕ
contents p = take 7 (subpacket 0 p) ++ (take 7 (subpacket 1 p) ++ (take 7 (subpacket 2 p) ++ take 7 (subpacket 3 p)))

pub sum_append : (xs ys : List ℕ) → sum (xs ++ ys) ≡ sum xs + sum ys
sum_append [] ys = omega arith
sum_append (x ∷ xs) ys = let e : sum (xs ++ ys) ≡ sum xs + sum ys = sum_append xs ys in omega arith

sum_zeros : (n : ℕ) → sum (replicate n 0) ≡ 0
sum_zeros zero = refl
sum_zeros (suc n) = let e : sum (replicate n 0) ≡ 0 = sum_zeros n in omega arith

-- the header's bytes and the contents are those of the frame
apart : (h l : List ℕ) → length h ≡ 3 → length l ≡ 28
    → take 3 (header (packet_of h (λ s. take 7 (drop (7 * s) l)))) ++ contents (packet_of h (λ s. take 7 (drop (7 * s) l))) ≡ h ++ l
unfolding packet_of with_parity
apart h l eh el =
    on_spine 3 (λ h. take 3 (header (packet_of h (λ s. take 7 (drop (7 * s) l)))) ++ contents (packet_of h (λ s. take 7 (drop (7 * s) l))) ≡ h ++ l) h eh
    (on_spine 28 (λ l. take 3 (header (packet_of (spine 3 h) (λ s. take 7 (drop (7 * s) l)))) ++ contents (packet_of (spine 3 h) (λ s. take 7 (drop (7 * s) l))) ≡ spine 3 h ++ l) l el refl)

pub info_sums : (h d : List ℕ) → length h ≡ 3 → length d ≤ 27
    → sum (take 3 (header (info_frame h d)) ++ contents (info_frame h d)) % 256 ≡ 0
unfolding info_frame
info_sums h d eh ed =
    let long : length (info_bytes h d) ≡ 28 = simp (length-append, length-replicate) (omega arith) in
    let a = sum_append h (info_bytes h d) in
    let b = sum_append d (replicate (27 - length d) 0) in
    let c = sum_append h d in
    let z = sum_zeros (27 - length d) in
    ap (λ (l : List ℕ). sum l % 256) (apart h (info_bytes h d) eh long) ∙ omega (arith, a, b, c, z)

-- no second byte brings the sum to 0
pub checksum_only : (xs : List ℕ) (b : ℕ) → b < 256 → (b + sum xs) % 256 ≡ 0 → b ≡ checksum xs
checksum_only xs b l e = omega arith
