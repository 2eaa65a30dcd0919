-- The bounds of the AVI info frame, on both sides; and the order of the questions.
use mathlib.Core.Path.{◌≡◌}
use mathlib.Core.List.{List}
use Prim.Native.Nat.{ℕ}
use lib.Dec.{T}
use lib.ListN.{length}
use Rattle.std.specs.Prelude.{Ok, Err}
use Rattle.refusal.specs.declared.Refusal.TheVariants.{Length, Unlisted}
use Rattle.refusal.specs.Verdict.{verdict, rising}
use Rattle.packet.specs.Asks.{avi_asks}

pub avi_in_order : (p : List ℕ) (s y c m r q v : ℕ) → T (rising (avi_asks p s y c m r q v))
avi_in_order p s y c m r q v = tt

-- a packet of 35 or 37 bytes is refused for its length, whatever else is wrong
module _ (p : List ℕ) (s y c m r q v : ℕ) where
  pub avi_35 : length p ≡ 35 → verdict (avi_asks p s y c m r q v) ≡ Err Length
  avi_35 e = rw e

  pub avi_37 : length p ≡ 37 → verdict (avi_asks p s y c m r q v) ≡ Err Length
  avi_37 e = rw e

module _ (p : List ℕ) (e : length p ≡ 36) where
  -- R, the active format: 0, 8 and 11 are listed, 7 and 12 aren't
  pub active_0 : verdict (avi_asks p 0 0 0 0 0 0 1) ≡ Ok tt
  active_0 = rw e

  pub active_7 : verdict (avi_asks p 0 0 0 0 7 0 1) ≡ Err Unlisted
  active_7 = rw e

  pub active_8 : verdict (avi_asks p 0 0 0 0 8 0 1) ≡ Ok tt
  active_8 = rw e

  pub active_11 : verdict (avi_asks p 0 0 0 0 11 0 1) ≡ Ok tt
  active_11 = rw e

  pub active_12 : verdict (avi_asks p 0 0 0 0 12 0 1) ≡ Err Unlisted
  active_12 = rw e

  -- every field at its highest
  pub avi_highest : verdict (avi_asks p 2 2 3 2 11 2 2) ≡ Ok tt
  avi_highest = rw e
