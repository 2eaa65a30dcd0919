-- Three, four and five bytes; the last line of VGA's 525 goes back to the first, and 525 is refused; the questions in the table's order.
use mathlib.Core.Path.{◌≡◌, refl}
use mathlib.Core.List.{List, [], ◌∷◌}
use Prim.Native.Nat.{ℕ}
use lib.Dec.{T}
use lib.ListN.{replicate}
use Rattle.laws.specs.Bytes.{bytes_of}
use Rattle.refusal.specs.Verdict.{verdict, kept, rising}
use Rattle.timing.specs.declared.DviTiming.{DviTiming}
use Rattle.timing.specs.Timing.{vga, ranges}
use Rattle.counter.specs.Counter.{line_after}
use Rattle.crossing.specs.Crossing.{told}
use Rattle.c_scan_out.specs.Lent.{counter_of, counter_bytes_asks}

-- the refusal, and the bytes afterwards, on VGA
abbrev said : List ℕ → ℕ
said lent = (told (verdict (counter_bytes_asks vga lent))).refusal

abbrev left : List ℕ → List ℕ
left lent = kept (verdict (counter_bytes_asks vga lent)) (bytes_of 4 (line_after vga (counter_of lent) ∷ [])) lent

pub four_bytes : (said (replicate 3 0) ≡ 1) × (said (replicate 4 0) ≡ 0) × (said (replicate 5 0) ≡ 1) × (said (replicate 8 0) ≡ 1)
unfolding ranges
four_bytes = (refl, refl, refl, refl)

-- 523, 524 and 525
pub round : (left (0x0b ∷ 2 ∷ 0 ∷ 0 ∷ []) ≡ 0x0c ∷ 2 ∷ 0 ∷ 0 ∷ []) × (left (0x0c ∷ 2 ∷ 0 ∷ 0 ∷ []) ≡ 0 ∷ 0 ∷ 0 ∷ 0 ∷ []) × (said (0x0d ∷ 2 ∷ 0 ∷ 0 ∷ []) ≡ 8) × (left (0x0d ∷ 2 ∷ 0 ∷ 0 ∷ []) ≡ 0x0d ∷ 2 ∷ 0 ∷ 0 ∷ [])
unfolding ranges
round = (refl, refl, refl, refl)

pub counter_bytes_in_order : (t : DviTiming) (lent : List ℕ) → T (rising (counter_bytes_asks t lent))
counter_bytes_in_order t lent = tt
