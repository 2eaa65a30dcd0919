-- Each bound at its edge, as the answer says it; the counter comes back from its carry; and no row is taken for none.
use mathlib.Core.Path.{◌≡◌, refl}
use mathlib.Core.Bool.{Bool, true, false, cond, ◌&&◌}
use Prim.Native.Nat.{ℕ, ◌-◌, ◌^◌, ◌<◌}
use native.Mathlib.Omega.{arith}
use lib.Dec.{T, leb, ltb, leb→le, ltb→lt}
use lib.IntN.{pos, negsuc}
use Rattle.std.specs.Prelude.{Ok, Some, None}
use Rattle.laws.proofs.Truth.{and_left, and_right}
use Rattle.refusal.specs.declared.Refusal.TheVariants.{LineCounter, LineOffset}
use Rattle.refusal.specs.Verdict.{verdict}
use Rattle.timing.specs.declared.DviTiming.{DviTiming}
use Rattle.timing.specs.LineState.{state_at}
use Rattle.timing.specs.Timing.{ranges, timing_asks, inactive, total, vga}
use Rattle.timing.proofs.Ranges.{accepted}
use Rattle.counter.specs.Counter.{counter_at, advance_of, v_state_of, row_at, scanline_of}
use Rattle.crossing.specs.declared.Answer.{Answer}
use Rattle.crossing.specs.Crossing.{given, refused}
use Rattle.crossing.specs.Signed.{bits_of}
use Rattle.crossing.proofs.Signed.{bits_back}
use Rattle.c_counter.specs.Crossing.{carried, advanced, stated, no_row, shown}

-- ---- the carry

-- the carry's 32 bits are the counter, whatever it is
pub counter_back : (c : ℕ) → c < 2 ^ 32 → bits_of 32 (carried (counter_at c)) ≡ c
counter_back c h = bits_back 32 c h

pub carry_edges : (carried (counter_at 2147483647) ≡ pos 2147483647) × (carried (counter_at 2147483648) ≡ negsuc 2147483647) × (carried (counter_at 4294967295) ≡ negsuc 0)
carry_edges = (refl, refl, refl)

-- ---- VGA's 525 lines, 45 of them without pixels

pub advance-edges :
    (advanced (advance_of vga (counter_at 523)) ≡ given 0 (pos 524)) × (advanced (advance_of vga (counter_at 524)) ≡ given 0 (pos 0))
    × (advanced (advance_of vga (counter_at 525)) ≡ refused LineCounter (pos 525)) × (advanced (advance_of vga (counter_at 4294967295)) ≡ refused LineCounter (negsuc 0))
unfolding ranges
advance-edges = (refl, refl, refl, refl)

abbrev state : ℕ → Answer
state c = stated (counter_at c) (v_state_of vga (counter_at c))

pub state-edges :
    (state 9 ≡ given 0 (pos 9)) × (state 10 ≡ given 1 (pos 10)) × (state 11 ≡ given 1 (pos 11)) × (state 12 ≡ given 2 (pos 12)) × (state 44 ≡ given 2 (pos 44))
    × (state 45 ≡ given 3 (pos 45)) × (state 524 ≡ given 3 (pos 524)) × (state 525 ≡ refused LineCounter (pos 525))
unfolding ranges state_at
state-edges = (refl, refl, refl, refl, refl, refl, refl, refl)

abbrev row : ℕ → ℕ → Answer
row c offset = shown (counter_at c) (scanline_of vga (counter_at c) offset)

pub row-edges :
    (row 44 0 ≡ given no_row (pos 44)) × (row 44 1 ≡ given 0 (pos 44)) × (row 524 0 ≡ given 479 (pos 524)) × (row 524 1 ≡ given no_row (pos 524))
    × (row 525 0 ≡ refused LineCounter (pos 525)) × (row 1 4294967294 ≡ given no_row (pos 1)) × (row 1 4294967295 ≡ refused LineOffset (pos 1))
unfolding ranges row_at
row-edges = (refl, refl, refl, refl, refl, refl, refl)

-- ---- no row of an accepted timing has the number that stands for none

below : (b : Bool) (a y n : ℕ) → (T b → y < a) → cond b (Some y) None ≡ Some n → 0 < a → n < a
below true a y n h e z =
    let same : y ≡ n = cc in
    let l = h tt in
    omega arith
below false a y n h e z = cc

pub row_isn't_none : (t : DviTiming) → verdict (timing_asks t) ≡ Ok tt → (y n : ℕ) → row_at t y ≡ Some n → n < no_row
unfolding row_at
row_isn't_none t ok y n e =
    let a = accepted t ok in
    let l = below (leb (inactive t) y && ltb y (total t)) t.v_active_lines (y - inactive t) n
    (λ s. let i = leb→le (inactive t) y (and_left (leb (inactive t) y) (ltb y (total t)) s) in
    let j = ltb→lt y (total t) (and_right (leb (inactive t) y) (ltb y (total t)) s) in omega arith)
    e (omega arith) in
    omega arith
