-- Each bound at its edge, on both sides.
use mathlib.Core.Path.{◌≡◌, refl}
use mathlib.Core.List.{List, [], ◌∷◌}
use Prim.Native.Nat.{ℕ, ◌-◌, ◌<◌}
use lib.ListN.{get_or, set, replicate}
use Rattle.std.specs.Prelude.{Ok, Err}
use Rattle.laws.proofs.Finite.{agreed}
use Rattle.refusal.specs.declared.Refusal.TheVariants.{Unlisted}
use Rattle.refusal.specs.Verdict.{verdict, verdict_number}
use Rattle.timing.specs.declared.DviTiming.{DviTiming}
use Rattle.timing.specs.Command.{command_of}
use Rattle.timing.specs.Sync.{polarity_asks}
use Rattle.timing.specs.Timing.{ranges, timing_asks, vga}

-- a command counts from 1 to 4,095
pub counts : (c : ℕ) → (command_of c 0 ≡ Err Unlisted) × (command_of c 4096 ≡ Err Unlisted)
counts c = (refl, refl)

pub raw_counts : (command_of 0 1 ≡ Ok 1) × (command_of 0 4095 ≡ Ok 0xfff)
raw_counts = (refl, refl)

pub repeat_counts : (command_of 1 1 ≡ Ok 0x1001) × (command_of 1 4095 ≡ Ok 0x1fff)
repeat_counts = (refl, refl)

-- a timing with these polarities and these eight numbers, in the order of its fields
abbrev pub timing : ℕ → ℕ → List ℕ → DviTiming
timing h v n = record {
  h_sync_polarity = h;
  h_front_porch = get_or n 0 0;
  h_sync_width = get_or n 1 0;
  h_back_porch = get_or n 2 0;
  h_active_pixels = get_or n 3 0;
  v_sync_polarity = v;
  v_front_porch = get_or n 4 0;
  v_sync_width = get_or n 5 0;
  v_back_porch = get_or n 6 0;
  v_active_lines = get_or n 7 0;
  bit_clk = 0;
}

abbrev pub least : List ℕ
least = 9 ∷ 37 ∷ 11 ∷ 9 ∷ 1 ∷ 1 ∷ 1 ∷ 1 ∷ []

abbrev pub most : List ℕ
most = replicate 8 4095

abbrev judged : List ℕ → ℕ
judged n = verdict_number (verdict (timing_asks (timing 0 0 n)))

pub least_accepted : verdict (timing_asks (timing 0 1 least)) ≡ Ok tt
unfolding ranges
least_accepted = refl

pub most_accepted : verdict (timing_asks (timing 1 0 most)) ≡ Ok tt
unfolding ranges
most_accepted = refl

pub vga_accepted : verdict (timing_asks vga) ≡ Ok tt
unfolding ranges
vga_accepted = refl

-- one less in any field, or one more, and the timing is refused with 7
pub below_least : (k : ℕ) → k < 8 → judged (set least k (get_or least k 0 - 1)) ≡ 7
unfolding ranges
below_least = agreed (λ k. judged (set least k (get_or least k 0 - 1))) (λ k. 7) 8 tt

pub above_most : (k : ℕ) → k < 8 → judged (set most k 4096) ≡ 7
unfolding ranges
above_most = agreed (λ k. judged (set most k 4096)) (λ k. 7) 8 tt

-- a polarity of 2 is refused, and with 4, whatever the ranges are
pub polarities_refused : (n : List ℕ)
    → (verdict (timing_asks (timing 2 0 n)) ≡ Err Unlisted) × (verdict (timing_asks (timing 0 2 n)) ≡ Err Unlisted)
    × (verdict (polarity_asks (timing 2 1 n)) ≡ Err Unlisted) × (verdict (polarity_asks (timing 1 2 n)) ≡ Err Unlisted)
polarities_refused n = (refl, refl, refl, refl)
