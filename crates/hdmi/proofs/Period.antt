-- What one control character tells: its lanes, its sync pair, and whether it announces video, an island or nothing. And the words for VGA's idle levels.
use mathlib.Core.Path.{◌≡◌, refl, sym, ap, ◌∙◌}
use mathlib.Core.Bool.{Bool, true, false}
use Prim.Native.Nat.{ℕ, ◌^◌, ◌<◌}
use native.Mathlib.Omega.{arith}
use lib.Dec.{eqb, eqb→eq}
use borrow.Author.Tests.{eq-eqb}
use Rattle.laws.proofs.Truth.{entails, entailed, true_T}
use Rattle.laws.proofs.Finite.{all, below, bounded}
use Rattle.dvi.specs.Control.{control, level, pair_of}
use Rattle.dvi.specs.Lanes.{lane}
use Rattle.hdmi.specs.Period.{control_word, idle, video_preamble, data_preamble, video_guard}
use Rattle.hdmi.proofs.Lanes.{lane_0, lane_1, lane_2, lanes_lt}

-- a level is one bit, and a pair of levels two
pub level_lt : (b : Bool) → level b < 2
level_lt true = omega arith
level_lt false = omega arith

pub pair_lt : (c0 c1 : Bool) → pair_of c0 c1 < 4
pair_lt c0 c1 = omega (arith, level_lt c0, level_lt c1)

-- a control symbol has ten bits
pub control_lt : (n : ℕ) → n < 4 → control n < 1024
unfolding control
control_lt = bounded control 1024 4 tt

-- the four control symbols are different
pub control_once : (m n : ℕ) → m < 4 → n < 4 → control m ≡ control n → m ≡ n
unfolding control
control_once m n hm hn e =
    eqb→eq m n
    (entailed (eqb (control m) (control n)) (eqb m n)
    (below (λ k. entails (eqb (control m) (control k)) (eqb m k)) 4 (below (λ j. all (λ k. entails (eqb (control j) (control k)) (eqb j k)) 4) 4 tt m hm) n hn)
    (true_T (eq-eqb (control m) (control n) e)))

module _ (hv : ℕ) (h : hv < 4) (ctl0 ctl1 ctl2 ctl3 : Bool) where
  pub on_lane_0 : lane 0 (control_word hv ctl0 ctl1 ctl2 ctl3) ≡ control hv
  unfolding control_word
  on_lane_0 = lane_0 _ _ _ (control_lt hv h) (control_lt _ (pair_lt ctl0 ctl1)) (control_lt _ (pair_lt ctl2 ctl3))

  pub on_lane_1 : lane 1 (control_word hv ctl0 ctl1 ctl2 ctl3) ≡ control (pair_of ctl0 ctl1)
  unfolding control_word
  on_lane_1 = lane_1 _ _ _ (control_lt hv h) (control_lt _ (pair_lt ctl0 ctl1)) (control_lt _ (pair_lt ctl2 ctl3))

  pub on_lane_2 : lane 2 (control_word hv ctl0 ctl1 ctl2 ctl3) ≡ control (pair_of ctl2 ctl3)
  unfolding control_word
  on_lane_2 = lane_2 _ _ _ (control_lt hv h) (control_lt _ (pair_lt ctl0 ctl1)) (control_lt _ (pair_lt ctl2 ctl3))

  pub control_word_lt : control_word hv ctl0 ctl1 ctl2 ctl3 < 2 ^ 30
  unfolding control_word
  control_word_lt = lanes_lt _ _ _ (control_lt hv h) (control_lt _ (pair_lt ctl0 ctl1)) (control_lt _ (pair_lt ctl2 ctl3))

-- a control word tells its sync pair and its four control bits
module _ (hv hw : ℕ) (hp : hv < 4) (hq : hw < 4) (a b c d a' b' c' d' : Bool) (e : control_word hv a b c d ≡ control_word hw a' b' c' d') where
  pub tells_sync : hv ≡ hw
  tells_sync = control_once hv hw hp hq (sym (on_lane_0 hv hp a b c d) ∙ ap (lane 0) e ∙ on_lane_0 hw hq a' b' c' d')

  pub tells_low : pair_of a b ≡ pair_of a' b'
  tells_low = control_once _ _ (pair_lt a b) (pair_lt a' b') (sym (on_lane_1 hv hp a b c d) ∙ ap (lane 1) e ∙ on_lane_1 hw hq a' b' c' d')

  pub tells_high : pair_of c d ≡ pair_of c' d'
  tells_high = control_once _ _ (pair_lt c d) (pair_lt c' d') (sym (on_lane_2 hv hp a b c d) ∙ ap (lane 2) e ∙ on_lane_2 hw hq a' b' c' d')

-- so neither preamble is taken for the other, or for none
module _ (hv hw : ℕ) (hp : hv < 4) (hq : hw < 4) where
  pub video_announced : video_preamble hv ≡ idle hw → ⊥
  video_announced e = let l = tells_low hv hw hp hq true false false false false false false false e in omega arith

  pub island_announced : data_preamble hv ≡ idle hw → ⊥
  island_announced e = let l = tells_low hv hw hp hq true false true false false false false false e in omega arith

  pub announced_apart : data_preamble hv ≡ video_preamble hw → ⊥
  announced_apart e = let l = tells_high hv hw hp hq true false true false true false false false e in omega arith

-- both sync lines high: nothing, video, an island; and the guard band of video
pub figures : (idle 3 ≡ 0x354d52ab) × (video_preamble 3 ≡ 0x3542aeab) × (data_preamble 3 ≡ 0x0ab2aeab) × (video_guard ≡ 0x2cc4cecc)
unfolding control_word control
figures = (refl, refl, refl, refl)
