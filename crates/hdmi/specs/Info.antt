-- HDMI 1.3a, sections 5.3.5 and 8.2, and CEA-861-D, section 6: info frames.
use Rattle.std.specs.Prelude.{cond, List, [], ◌∷◌, ◌++◌, ℕ, zero, suc, ◌+◌, ◌-◌, ◌*◌, ◌%◌, eqb, length, take, drop, replicate}
use Rattle.hdmi.specs.Packet.{packet_of}

abbrev pub sum : List ℕ → ℕ
sum [] = 0
sum (x ∷ xs) = x + sum xs

-- the byte that brings the sum to 0 modulo 256
abbrev pub checksum : List ℕ → ℕ
checksum xs = (256 - sum xs % 256) % 256

-- bytes 0..27 of an info frame with the header h: the checksum, the data bytes d, and zeros behind them
abbrev pub info_bytes : List ℕ → List ℕ → List ℕ
info_bytes h d = checksum (h ++ d) ∷ (d ++ replicate (27 - length d) 0)

-- the header is type, version and length; the bytes go seven to a subpacket
unfoldable pub info_frame : List ℕ → List ℕ → List ℕ
info_frame h d = packet_of h (λ s. take 7 (drop (7 * s) (info_bytes h d)))

-- ---- audio (CEA-861-D, section 6.6)

-- SF, the sampling frequency: 3 is 48 kHz, 2 is 44.1 kHz, and 0 refers to the stream's header
abbrev pub frequency_code : ℕ → ℕ
frequency_code rate = cond (eqb rate 48000) 3 (cond (eqb rate 44100) 2 0)

-- Byte 1 is CC + 16 CT: two channels of IEC 60958 PCM. Byte 2 is SS + 4 SF: 16 bits.
abbrev pub audio_info_frame : ℕ → List ℕ
audio_info_frame rate = info_frame (0x84 ∷ 1 ∷ 10 ∷ []) ((1 + 16 * 1) ∷ (1 + 4 * frequency_code rate) ∷ [])

-- ---- auxiliary video (CEA-861-D, section 6.4, version 2)

-- A: whether the active format R says anything
abbrev pub active_present : ℕ → ℕ
active_present zero = 0
active_present (suc r) = 1

-- scan s, pixel format y, colorimetry c, picture aspect ratio m, active format r, quantization range q and video code v
abbrev pub avi_info_frame : (s y c m r q v : ℕ) → List ℕ
avi_info_frame s y c m r q v =
    info_frame (0x82 ∷ 2 ∷ 13 ∷ []) ((s + 16 * active_present r + 32 * y) ∷ (r + 16 * m + 64 * c) ∷ (4 * q) ∷ v ∷ [])
