-- What an accepted timing has: polarities of one bit, and every number within its range.
use mathlib.Core.Path.{◌≡◌}
use mathlib.Core.Bool.{Bool, true, ◌&&◌}
use mathlib.Core.List.{[]}
use Prim.Native.Nat.{ℕ, ◌≤◌, ◌<◌}
use borrow.Author.Tests.{le-leb, lt-ltb}
use lib.Dec.{leb, ltb, leb→le, ltb→lt}
use Rattle.std.specs.Prelude.{Ok}
use Rattle.laws.proofs.Truth.{and_left, and_right, true_T, T_true}
use Rattle.refusal.specs.declared.Refusal.TheVariants.{Unlisted, TimingRange}
use Rattle.refusal.specs.Verdict.{verdict}
use Rattle.timing.specs.declared.DviTiming.{DviTiming}
use Rattle.timing.specs.Timing.{within, ranges, range_asks, timing_asks}
use Rattle.refusal.proofs.Upward.{held}

pub record Within (low x : ℕ) : Type 0 where
  pub least : low ≤ x
  pub most : x ≤ 4095

pub bounds : (low x : ℕ) → within low x ≡ true → Within low x
bounds low x e =
    let t = true_T e in
    record { least = leb→le low x (and_left (leb low x) (leb x 4095) t); most = leb→le x 4095 (and_right (leb low x) (leb x 4095) t) }

-- a timing that is not refused
pub record Accepted (t : DviTiming) : Type 0 where
  pub h_polarity : t.h_sync_polarity < 2
  pub v_polarity : t.v_sync_polarity < 2
  pub h_front : Within 9 t.h_front_porch
  pub h_sync : Within 37 t.h_sync_width
  pub h_back : Within 11 t.h_back_porch
  pub h_active : Within 9 t.h_active_pixels
  pub v_front : Within 1 t.v_front_porch
  pub v_sync : Within 1 t.v_sync_width
  pub v_back : Within 1 t.v_back_porch
  pub v_active : Within 1 t.v_active_lines

-- of tests joined one after the other: the last, and those before
last : (a b : Bool) → (a && b) ≡ true → b ≡ true
last a b e = T_true (and_right a b (true_T e))

front : (a b : Bool) → (a && b) ≡ true → a ≡ true
front a b e = T_true (and_left a b (true_T e))

pub accepted : (t : DviTiming) → verdict (timing_asks t) ≡ Ok tt → Accepted t
unfolding ranges
accepted t e =
    let ph : Bool = ltb t.h_sync_polarity 2 in
    let pv : Bool = ltb t.v_sync_polarity 2 in
    let p = held (ph && pv) Unlisted (range_asks t) e in
    let hf : Bool = within 9 t.h_front_porch in
    let hs : Bool = within 37 t.h_sync_width in
    let hb : Bool = within 11 t.h_back_porch in
    let ha : Bool = within 9 t.h_active_pixels in
    let vf : Bool = within 1 t.v_front_porch in
    let vs : Bool = within 1 t.v_sync_width in
    let vb : Bool = within 1 t.v_back_porch in
    let va : Bool = within 1 t.v_active_lines in
    let r : ranges t ≡ true = (held (ranges t) TimingRange [] p.1).0 in
    let r7 = front (((((((hf && hs) && hb) && ha) && vf) && vs) && vb)) va r in
    let r6 = front ((((((hf && hs) && hb) && ha) && vf) && vs)) vb r7 in
    let r5 = front (((((hf && hs) && hb) && ha) && vf)) vs r6 in
    let r4 = front ((((hf && hs) && hb) && ha)) vf r5 in
    let r3 = front (((hf && hs) && hb)) ha r4 in
    let r2 = front ((hf && hs)) hb r3 in
    record {
      h_polarity = ltb→lt _ 2 (true_T (front ph pv p.0));
      v_polarity = ltb→lt _ 2 (true_T (last ph pv p.0));
      h_front = bounds 9 _ (front hf hs r2);
      h_sync = bounds 37 _ (last hf hs r2);
      h_back = bounds 11 _ (last (hf && hs) hb r3);
      h_active = bounds 9 _ (last ((hf && hs) && hb) ha r4);
      v_front = bounds 1 _ (last (((hf && hs) && hb) && ha) vf r5);
      v_sync = bounds 1 _ (last ((((hf && hs) && hb) && ha) && vf) vs r6);
      v_back = bounds 1 _ (last (((((hf && hs) && hb) && ha) && vf) && vs) vb r7);
      v_active = bounds 1 _ (last ((((((hf && hs) && hb) && ha) && vf) && vs) && vb) va r);
    }

tests : {low x : ℕ} → Within low x → within low x ≡ true
tests {low} {x} w = simp (le-leb low x w.least, le-leb x 4095 w.most)

-- and a timing that has all this is not refused
pub accepting : (t : DviTiming) → Accepted t → verdict (timing_asks t) ≡ Ok tt
unfolding ranges
accepting t a =
    simp (
      lt-ltb _ 2 a.h_polarity,
      lt-ltb _ 2 a.v_polarity,
      tests a.h_front,
      tests a.h_sync,
      tests a.h_back,
      tests a.h_active,
      tests a.v_front,
      tests a.v_sync,
      tests a.v_back,
      tests a.v_active,
    )
