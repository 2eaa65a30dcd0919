-- A timing as it crosses, and a level.
use Rattle.std.specs.Prelude.{Bool, not, ℕ, eqb}
use Rattle.timing.specs.declared.DviTiming.{DviTiming}
use Rattle.crossing.specs.declared.Timing.{Timing}

abbrev pub timing_of : Timing → DviTiming
timing_of t = record {
  h_front_porch = t.h_front_porch;
  h_sync_width = t.h_sync_width;
  h_back_porch = t.h_back_porch;
  h_active_pixels = t.h_active_pixels;
  v_front_porch = t.v_front_porch;
  v_sync_width = t.v_sync_width;
  v_back_porch = t.v_back_porch;
  v_active_lines = t.v_active_lines;
  bit_clk = t.bit_clk;
  h_sync_polarity = t.h_sync_polarity;
  v_sync_polarity = t.v_sync_polarity;
}

-- and back
abbrev pub crossing : DviTiming → Timing
crossing t = record {
  h_front_porch = t.h_front_porch;
  h_sync_width = t.h_sync_width;
  h_back_porch = t.h_back_porch;
  h_active_pixels = t.h_active_pixels;
  v_front_porch = t.v_front_porch;
  v_sync_width = t.v_sync_width;
  v_back_porch = t.v_back_porch;
  v_active_lines = t.v_active_lines;
  bit_clk = t.bit_clk;
  h_sync_polarity = t.h_sync_polarity;
  v_sync_polarity = t.v_sync_polarity;
}

-- 0 is off, any other number on
abbrev pub is_on : ℕ → Bool
is_on level = not (eqb level 0)
