-- Worked figures: the parity bytes of three headers, and bytes of built packets.
use mathlib.Core.Path.{◌≡◌, refl}
use mathlib.Core.List.{[], ◌∷◌}
use lib.Count.{ones, ones_in}
use lib.IntN.{pos, negsuc}
use lib.ListN.{get_or, take, replicate}
use Rattle.hdmi.specs.Parity.{parity, sent, with_parity}
use Rattle.hdmi.specs.Packet.{subpacket, packet_of}
use Rattle.hdmi.specs.Audio.{frame, audio_packet, count_after}
use Rattle.hdmi.specs.Info.{info_frame, audio_info_frame, avi_info_frame}

-- audio clock regeneration
pub header_1_0_0 : parity (1 ∷ 0 ∷ 0 ∷ []) ≡ 0x4a
unfolding parity sent
header_1_0_0 = refl

-- the audio info frame, version 1, length 10
pub header_84_1_10 : parity (0x84 ∷ 1 ∷ 10 ∷ []) ≡ 0x4a
unfolding parity sent
header_84_1_10 = refl

-- the AVI info frame, version 2, length 13
pub header_82_2_13 : parity (0x82 ∷ 2 ∷ 13 ∷ []) ≡ 0xe4
unfolding parity sent
header_82_2_13 = refl

-- ---- packets

-- one frame, 1 and -1, where the block starts: header and status
pub audio_header : take 3 (audio_packet (pos 1 ∷ negsuc 0 ∷ []) 0) ≡ 2 ∷ 1 ∷ 0x10 ∷ []
unfolding packet_of with_parity
audio_header = refl

pub audio_status : get_or (subpacket 0 (audio_packet (pos 1 ∷ negsuc 0 ∷ []) 0)) 6 0 ≡ 0x91
unfolding packet_of with_parity frame ones ones_in
audio_status = refl

-- the count after one frame from 0 is 191, and no frames leave it
pub audio_counts : count_after 1 0 ∷ count_after 0 0 ∷ [] ≡ 191 ∷ 0 ∷ []
audio_counts = refl

-- the checksums of the audio info frame at 48000, and of the AVI info frame with R = 8, M = 1 and code 1
pub checksums : get_or (subpacket 0 (audio_info_frame 48000)) 0 0 ∷ get_or (subpacket 0 (avi_info_frame 0 0 0 1 8 0 1)) 0 0 ∷ [] ≡ 0x53 ∷ 0x46 ∷ []
unfolding info_frame packet_of with_parity
checksums = refl

-- byte 2 of the audio info frame, by its rate
pub rate_bytes : get_or (subpacket 0 (audio_info_frame 48000)) 2 0 ∷ get_or (subpacket 0 (audio_info_frame 44100)) 2 0 ∷ get_or (subpacket 0 (audio_info_frame 32000)) 2 0 ∷ [] ≡ 0x0d ∷ 0x09 ∷ 0x01 ∷ []
unfolding info_frame packet_of with_parity
rate_bytes = refl

-- a frame count of 3 with two frames announces the block in this packet and, from 1, in the next
pub announced_twice : get_or (audio_packet (replicate 4 (pos 0)) 3) 2 0 ∷ count_after 2 3 ∷ get_or (audio_packet (replicate 4 (pos 0)) 1) 2 0 ∷ [] ≡ 0x80 ∷ 1 ∷ 0x20 ∷ []
unfolding packet_of with_parity
announced_twice = refl
