-- HDMI 1.3a, section 5.3.4 (audio samples), with the bits of a sample from IEC 60958-1.
use Rattle.std.specs.Prelude.{cond, List, [], ◌∷◌, ℕ, suc, ◌+◌, ◌-◌, ◌*◌, ◌/◌, ◌%◌, ◌^◌, ltb, ℤ, pos, negsuc, length, get_or, replicate}
use Rattle.std.specs.Int.Count.{ones}
use Rattle.hdmi.specs.Packet.{packet_of}

-- the sixteen bits of a signed sample, in two's complement
abbrev pub twos : ℤ → ℕ
twos (pos n) = n
twos (negsuc n) = 2 ^ 16 - suc n

-- V, U, C and P of a sample with the bits x, in bits 0..3: V is 1, U and C are 0, and with P the ones of sample, V, U, C and P are even in number
abbrev pub status : ℕ → ℕ
status x = 1 + 8 * ((ones x + 1) % 2)

-- A frame: left, then right, each as 24 bits with the sixteen on top, the low byte first; then the status of both.
unfoldable pub frame : ℤ → ℤ → List ℕ
frame l r = 0 ∷ twos l % 2 ^ 8 ∷ twos l / 2 ^ 8 ∷ 0 ∷ twos r % 2 ^ 8 ∷ twos r / 2 ^ 8 ∷ (status (twos l) + 16 * status (twos r)) ∷ []

-- how many frames there are in a list of samples, left and right in turn
abbrev pub frames : List ℤ → ℕ
frames samples = length samples / 2

-- the seven bytes of frame s, zeros where there is none
abbrev pub frame_bytes : List ℤ → ℕ → List ℕ
frame_bytes samples s =
    cond (ltb s (frames samples)) (frame (get_or samples (2 * s) (pos 0)) (get_or samples (2 * s + 1) (pos 0))) (replicate 7 0)

-- B.0..B.3, in bits 4..7: the mark of the frame that starts a block of 192. The count c says how many frames come before that one. Of the n frames
-- of the packet nothing is asked.
abbrev pub block_start : (n c : ℕ) → ℕ
block_start n c = cond (ltb c 4) (2 ^ (4 + c)) 0

-- packet type 2; sample_present in bits 0..3 of the second byte
abbrev pub audio_packet : List ℤ → ℕ → List ℕ
audio_packet samples c = packet_of (2 ∷ (2 ^ frames samples - 1) ∷ block_start (frames samples) c ∷ []) (frame_bytes samples)

-- the count after n frames: (c - n) modulo 192
abbrev pub count_after : (n c : ℕ) → ℕ
count_after n c = (c + 192 - n) % 192
