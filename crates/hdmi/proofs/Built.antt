-- What every packet of the four kinds has: right parity, and zeros where nothing is sent.
use mathlib.Core.Path.{◌≡◌, refl, ◌∙◌}
use mathlib.Core.Bool.{Bool, true, false, cond}
use mathlib.Core.List.{List, [], ◌∷◌}
use Prim.Native.Nat.{ℕ, ◌+◌, ◌-◌, ◌*◌, ◌%◌, ◌^◌, ◌<◌, ◌≤◌}
use native.Mathlib.Omega.{arith}
use borrow.Author.Tests.{le-ltb}
use lib.Bits.{bit_xor}
use lib.Count.{ones}
use lib.Dec.{ltb}
use lib.IntN.{ℤ}
use lib.ListN.{length, get_or, take, drop, replicate, length-take, length-drop, length-append, length-replicate}
use Rattle.laws.proofs.Xor.{on_bit, odd_lt}
use Rattle.hdmi.specs.Parity.{parity, sent, with_parity}
use Rattle.hdmi.specs.Packet.{subpacket, RightPacket}
use Rattle.hdmi.specs.Audio.{frame, frames, frame_bytes, block_start, audio_packet, status}
use Rattle.hdmi.specs.Clock.{clock_bytes, clock_packet}
use Rattle.hdmi.specs.Info.{info_bytes, info_frame}
use Rattle.hdmi.proofs.Packet.{packet_right, packet_subpacket}

-- ---- audio

frame-length : (t : Bool) (l r : ℤ) → length (cond t (frame l r) (replicate 7 0)) ≡ 7
unfolding frame
frame-length true l r = refl
frame-length false l r = refl

bytes_length : (samples : List ℤ) (s : ℕ) → length (frame_bytes samples s) ≡ 7
bytes_length samples s = frame-length (ltb s (frames samples)) _ _

pub audio_right : (samples : List ℤ) (c : ℕ) → RightPacket (audio_packet samples c)
audio_right samples c = packet_right _ (frame_bytes samples) refl (λ s l. bytes_length samples s)

-- a subpacket with no frame is all zeros, its parity byte too
pub audio_unused : (samples : List ℤ) (c s : ℕ) → s < 4 → frames samples ≤ s → subpacket s (audio_packet samples c) ≡ replicate 8 0
unfolding with_parity parity sent
audio_unused samples c s l h =
    packet_subpacket (2 ∷ (2 ^ frames samples - 1) ∷ block_start (frames samples) c ∷ []) (frame_bytes samples) refl (λ s l. bytes_length samples s) s l
    ∙ rw (le-ltb s (frames samples) h)

-- the status of both samples in one formula
status_by : (a b : ℕ) → a < 2 → b < 2 → 1 + 8 * ((a + 1) % 2) + 16 * (1 + 8 * ((b + 1) % 2)) ≡ bit_xor (a * 8 + b * 128) 0x99
status_by a b ha hb =
    on_bit (λ (x : ℕ). 1 + 8 * ((x + 1) % 2) + 16 * (1 + 8 * ((b + 1) % 2)) ≡ bit_xor (x * 8 + b * 128) 0x99)
    (on_bit (λ (y : ℕ). 1 + 8 * 1 + 16 * (1 + 8 * ((y + 1) % 2)) ≡ bit_xor (0 + y * 128) 0x99) refl refl b hb)
    (on_bit (λ (y : ℕ). 1 + 8 * 0 + 16 * (1 + 8 * ((y + 1) % 2)) ≡ bit_xor (8 + y * 128) 0x99) refl refl b hb)
    a ha

next_odd : (n : ℕ) → (n + 1) % 2 ≡ (n % 2 + 1) % 2
next_odd n = omega arith

pub status_both : (l r : ℕ) → status l + 16 * status r ≡ bit_xor (ones l % 2 * 8 + ones r % 2 * 128) 0x99
status_both l r = rw (next_odd (ones l), next_odd (ones r)) (status_by (ones l % 2) (ones r % 2) (odd_lt (ones l)) (odd_lt (ones r)))

-- ---- the clock

pub clock_right : (cts n : ℕ) → RightPacket (clock_packet cts n)
clock_right cts n = packet_right _ (λ s. clock_bytes cts n) refl (λ s l. refl)

-- CTS and N are read from their bytes, the highest first
pub clock_reads : (cts n : ℕ) (b : List ℕ) → b ≡ clock_bytes cts n
    → (get_or b 1 0 * 65536 + get_or b 2 0 * 256 + get_or b 3 0 ≡ cts) × (get_or b 4 0 * 65536 + get_or b 5 0 * 256 + get_or b 6 0 ≡ n)
clock_reads cts n b e = rw e (omega arith, omega arith)

-- ---- info frames

info_length : (h d : List ℕ) → length d ≤ 27 → length (info_bytes h d) ≡ 28
info_length h d l = simp (length-append, length-replicate) (omega arith)

pub info_right : (h d : List ℕ) → length h ≡ 3 → length d ≤ 27 → RightPacket (info_frame h d)
unfolding info_frame
info_right h d eh l =
    packet_right h (λ s. take 7 (drop (7 * s) (info_bytes h d))) eh
    (λ s k. length-take 7 (drop (7 * s) (info_bytes h d)) ∙ omega (arith, length-drop (7 * s) (info_bytes h d), info_length h d l))
