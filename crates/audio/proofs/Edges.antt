-- The bounds of the audio packet, on both sides; and the order of the questions.
use mathlib.Core.Path.{◌≡◌}
use mathlib.Core.List.{List}
use Prim.Native.Nat.{ℕ}
use lib.Dec.{T}
use lib.IntN.{ℤ, pos, negsuc}
use lib.ListN.{length}
use Rattle.std.specs.Prelude.{Ok, Err}
use Rattle.refusal.specs.declared.Refusal.TheVariants.{Length, FrameCount}
use Rattle.refusal.specs.Verdict.{verdict, rising}
use Rattle.audio.specs.Asks.{audio_asks}

pub audio_in_order : (p : List ℕ) (samples : List ℤ) (count : ℤ) → T (rising (audio_asks p samples count))
audio_in_order p samples count = tt

-- the packet: 35 and 37 bytes are refused first, whatever else is wrong
module _ (p : List ℕ) (samples : List ℤ) (count : ℤ) where
  pub bytes_35 : length p ≡ 35 → verdict (audio_asks p samples count) ≡ Err Length
  bytes_35 e = rw e

  pub bytes_37 : length p ≡ 37 → verdict (audio_asks p samples count) ≡ Err Length
  bytes_37 e = rw e

module _ (p : List ℕ) (samples : List ℤ) (e : length p ≡ 36) where
  -- the samples: none and eight are taken, an odd number and ten aren't, and the count isn't asked for then
  pub samples_0 : length samples ≡ 0 → verdict (audio_asks p samples (pos 0)) ≡ Ok tt
  samples_0 h = rw (e, h)

  pub samples_7 : (count : ℤ) → length samples ≡ 7 → verdict (audio_asks p samples count) ≡ Err Length
  samples_7 count h = rw (e, h)

  pub samples_8 : length samples ≡ 8 → verdict (audio_asks p samples (pos 0)) ≡ Ok tt
  samples_8 h = rw (e, h)

  pub samples_9 : (count : ℤ) → length samples ≡ 9 → verdict (audio_asks p samples count) ≡ Err Length
  samples_9 count h = rw (e, h)

  pub samples_10 : (count : ℤ) → length samples ≡ 10 → verdict (audio_asks p samples count) ≡ Err Length
  samples_10 count h = rw (e, h)

  -- the count
  pub count_minus_1 : length samples ≡ 2 → verdict (audio_asks p samples (negsuc 0)) ≡ Err FrameCount
  count_minus_1 h = rw (e, h)

  pub count_191 : length samples ≡ 2 → verdict (audio_asks p samples (pos 191)) ≡ Ok tt
  count_191 h = rw (e, h)

  pub count_192 : length samples ≡ 2 → verdict (audio_asks p samples (pos 192)) ≡ Err FrameCount
  count_192 h = rw (e, h)
