-- A timing: what is asked of it, its totals and its line states, and VGA's.
use Rattle.std.specs.Prelude.{Bool, ◌&&◌, List, [], ◌∷◌, ◌++◌, ℕ, ◌+◌, leb}
use Rattle.refusal.specs.declared.Refusal.TheVariants.{TimingRange}
use Rattle.refusal.specs.Verdict.{Ask, ask}
use Rattle.timing.specs.declared.DviTiming.{DviTiming}
use Rattle.timing.specs.Sync.{polarity_asks}

-- from `low` to the most that a command word counts
abbrev pub within : ℕ → ℕ → Bool
within low x = leb low x && leb x 4095

-- The ranges. A line with an island takes 8 of the front porch for the preamble, 36 of the sync width for the island and 10 of the back porch for the
-- preamble and the guard band of video; the sync-only line sends its last 8 apart. At least 1 is left of each for the command before.
unfoldable pub ranges : DviTiming → Bool
ranges t =
    ((((((within 9 t.h_front_porch && within 37 t.h_sync_width) && within 11 t.h_back_porch) && within 9 t.h_active_pixels)
    && within 1 t.v_front_porch) && within 1 t.v_sync_width) && within 1 t.v_back_porch) && within 1 t.v_active_lines

-- what is asked of a timing handed in whole: polarities, then ranges
abbrev pub range_asks : DviTiming → List Ask
range_asks t = ask (ranges t) TimingRange ∷ []

abbrev pub timing_asks : DviTiming → List Ask
timing_asks t = polarity_asks t ++ range_asks t

-- lines that show no pixels, and all lines
abbrev pub inactive : DviTiming → ℕ
inactive t = t.v_front_porch + t.v_sync_width + t.v_back_porch

abbrev pub total : DviTiming → ℕ
total t = inactive t + t.v_active_lines

-- 640 by 480 at 60 Hz
abbrev pub vga : DviTiming
vga = record {
  h_front_porch = 16;
  h_sync_width = 96;
  h_back_porch = 48;
  h_active_pixels = 640;
  v_front_porch = 10;
  v_sync_width = 2;
  v_back_porch = 33;
  v_active_lines = 480;
  bit_clk = 252000;
  h_sync_polarity = 0;
  v_sync_polarity = 0;
}
