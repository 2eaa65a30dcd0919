-- Each bound at its edge, as the answer says it. (The ranges at theirs: timing/proofs/Edges.antt.)
use mathlib.Core.Path.{◌≡◌, refl}
use mathlib.Core.Bool.{true, false}
use Prim.Native.Nat.{ℕ}
use lib.IntN.{pos}
use Rattle.refusal.specs.declared.Refusal.TheVariants.{Unlisted}
use Rattle.refusal.specs.Verdict.{verdict}
use Rattle.timing.specs.declared.DviTiming.{DviTiming}
use Rattle.timing.specs.Command.{command_of}
use Rattle.timing.specs.Sync.{sync_word_of}
use Rattle.timing.specs.Timing.{timing_asks, ranges, vga}
use Rattle.crossing.specs.declared.Timing.{Timing}
use Rattle.crossing.specs.Crossing.{given, refused, told}
use Rattle.crossing.specs.Timing.{timing_of, crossing, is_on}
use Rattle.c_timing.specs.Crossing.{commanded, synced}

-- the timing that crosses is the timing, both ways
pub timing_back : (t : DviTiming) → timing_of (crossing t) ≡ t
timing_back t = refl

pub crossing_back : (t : Timing) → crossing (timing_of t) ≡ t
crossing_back t = refl

-- every level but 0 is on
pub levels : (is_on 0 ≡ false) × (is_on 1 ≡ true) × (is_on 2 ≡ true) × (is_on 255 ≡ true)
levels = (refl, refl, refl, refl)

pub raw-edges :
    (commanded (command_of 0 0) ≡ refused Unlisted (pos 0)) × (commanded (command_of 0 1) ≡ given 1 (pos 0)) × (commanded (command_of 0 4095) ≡ given 4095 (pos 0))
    × (commanded (command_of 0 4096) ≡ refused Unlisted (pos 0))
raw-edges = (refl, refl, refl, refl)

pub repeat-edges :
    (commanded (command_of 1 0) ≡ refused Unlisted (pos 0)) × (commanded (command_of 1 1) ≡ given 0x1001 (pos 0)) × (commanded (command_of 1 4095) ≡ given 0x1fff (pos 0))
    × (commanded (command_of 1 4096) ≡ refused Unlisted (pos 0))
repeat-edges = (refl, refl, refl, refl)

-- VGA with another vertical polarity
abbrev polarity : ℕ → DviTiming
polarity p = record {
  h_sync_polarity = vga.h_sync_polarity;
  h_front_porch = vga.h_front_porch;
  h_sync_width = vga.h_sync_width;
  h_back_porch = vga.h_back_porch;
  h_active_pixels = vga.h_active_pixels;
  v_sync_polarity = p;
  v_front_porch = vga.v_front_porch;
  v_sync_width = vga.v_sync_width;
  v_back_porch = vga.v_back_porch;
  v_active_lines = vga.v_active_lines;
  bit_clk = vga.bit_clk;
}

pub polarity-edges :
    (told (verdict (timing_asks (polarity 1))) ≡ given 0 (pos 0)) × (told (verdict (timing_asks (polarity 2))) ≡ refused Unlisted (pos 0))
    × (synced (sync_word_of (polarity 2) false false) ≡ refused Unlisted (pos 0))
unfolding ranges
polarity-edges = (refl, refl, refl)
