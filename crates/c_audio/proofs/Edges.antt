-- Each bound at its edge, as the answer says it; the order of the questions; and what the bytes of a sample say.
use mathlib.Core.Path.{◌≡◌, refl}
use mathlib.Core.List.{List, [], ◌∷◌}
use Prim.Native.Nat.{ℕ}
use lib.Dec.{T}
use lib.IntN.{ℤ, pos, negsuc}
use lib.ListN.{replicate}
use Rattle.refusal.specs.declared.Refusal.TheVariants.{Length, FrameCount}
use Rattle.refusal.specs.Verdict.{rising}
use Rattle.crossing.specs.declared.Answer.{Answer}
use Rattle.crossing.specs.Crossing.{given, refused}
use Rattle.c_audio.specs.Samples.{samples_in, audio_bytes_asks, count_of, counted}

pub audio_bytes_in_order : (packet lent : List ℕ) (count : ℤ) → T (rising (audio_bytes_asks packet lent count))
audio_bytes_in_order packet lent count = tt

abbrev said : (packet samples : ℕ) → ℤ → Answer
said packet samples count = counted (count_of (replicate packet 0) (replicate samples 0) count)

-- no frame, one and four frames
pub frames_taken : (said 36 0 (pos 0) ≡ given 0 (pos 0)) × (said 36 4 (pos 0) ≡ given 0 (pos 191)) × (said 36 16 (pos 191) ≡ given 0 (pos 187))
frames_taken = (refl, refl, refl)

-- half a sample, one sample of two, one byte less or more than four frames, five samples, five frames: refused, with the count as it came
pub frames-refused :
    (said 36 1 (pos 7) ≡ refused Length (pos 7)) × (said 36 2 (pos 7) ≡ refused Length (pos 7)) × (said 36 15 (pos 7) ≡ refused Length (pos 7))
    × (said 36 17 (pos 7) ≡ refused Length (pos 7)) × (said 36 18 (pos 7) ≡ refused Length (pos 7)) × (said 36 20 (pos 7) ≡ refused Length (pos 7))
frames-refused = (refl, refl, refl, refl, refl, refl)

pub packet_edges : (said 35 4 (pos 7) ≡ refused Length (pos 7)) × (said 37 4 (pos 7) ≡ refused Length (pos 7))
packet_edges = (refl, refl)

-- a count within 0..191; a wrong length is said first
pub count-edges :
    (said 36 4 (pos 191) ≡ given 0 (pos 190)) × (said 36 4 (pos 192) ≡ refused FrameCount (pos 192))
    × (said 36 4 (negsuc 0) ≡ refused FrameCount (negsuc 0)) × (said 36 3 (negsuc 0) ≡ refused Length (negsuc 0))
count-edges = (refl, refl, refl, refl)

-- 1, -1, the highest and the lowest sample
pub sample_edges : samples_in (0x01 ∷ 0x00 ∷ 0xff ∷ 0xff ∷ 0xff ∷ 0x7f ∷ 0x00 ∷ 0x80 ∷ []) ≡ pos 1 ∷ negsuc 0 ∷ pos 32767 ∷ negsuc 32767 ∷ []
sample_edges = refl
