-- Three lanes in a word: each is found again, the word has 30 bits, and a word of 30 bits is its lanes.
use mathlib.Core.Path.{◌≡◌}
use Prim.Native.Nat.{ℕ, ◌+◌, ◌*◌, ◌/◌, ◌^◌, ◌<◌}
use native.Mathlib.Omega.{arith}
use Rattle.dvi.specs.Lanes.{lanes, lane}

module _ (a b c : ℕ) (ha : a < 1024) (hb : b < 1024) (hc : c < 1024) where
  pub lane_0 : lane 0 (lanes a b c) ≡ a
  lane_0 = omega arith

  pub lane_1 : lane 1 (lanes a b c) ≡ b
  lane_1 =
      let e : lanes a b c / 2 ^ 10 ≡ b + c * 2 ^ 10 = omega arith in
      omega arith

  pub lane_2 : lane 2 (lanes a b c) ≡ c
  lane_2 =
      let e : lanes a b c / 2 ^ 20 ≡ c = omega arith in
      omega arith

  pub lanes_lt : lanes a b c < 2 ^ 30
  lanes_lt = omega arith

pub of_lanes : (w : ℕ) → w < 2 ^ 30 → w ≡ lanes (lane 0 w) (lane 1 w) (lane 2 w)
of_lanes w h = omega arith
