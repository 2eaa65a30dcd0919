-- HDMI 1.3a, section 5.2: what the three lanes carry between islands and pixels. A control character has the two sync levels on lane 0 and the four
-- control bits CTL0..CTL3 on lanes 1 and 2; a preamble announces by them which period comes next, and a guard band opens that period.
use Rattle.std.specs.Prelude.{Bool, true, false, ℕ}
use Rattle.dvi.specs.Control.{control, pair_of}
use Rattle.dvi.specs.Lanes.{lanes}

-- 5.2.1: hv is the sync pair, lane 1 has CTL0 and CTL1, lane 2 has CTL2 and CTL3
unfoldable pub control_word : ℕ → Bool → Bool → Bool → Bool → ℕ
control_word hv ctl0 ctl1 ctl2 ctl3 = lanes (control hv) (control (pair_of ctl0 ctl1)) (control (pair_of ctl2 ctl3))

-- nothing is announced
abbrev pub idle : ℕ → ℕ
idle hv = control_word hv false false false false

-- 5.2.1.1: CTL0 alone announces video, CTL0 and CTL2 announce an island
abbrev pub video_preamble : ℕ → ℕ
video_preamble hv = control_word hv true false false false

abbrev pub data_preamble : ℕ → ℕ
data_preamble hv = control_word hv true false true false

-- 5.2.1.1, 5.2.2.1: a preamble lasts eight characters, a guard band two
abbrev pub preamble_length : ℕ
preamble_length = 8

abbrev pub guard_length : ℕ
guard_length = 2

-- 5.2.2.1: the guard band that opens video
abbrev pub video_guard : ℕ
video_guard = lanes 0x2cc 0x133 0x2cc
