-- Two bytes at a place, and samples that fill a scratch from its start.
use mathlib.Core.Path.{◌≡◌, sym, ap, ap₂, ◌∙◌}
use mathlib.Core.List.{List, [], ◌∷◌, ◌++◌}
use Prim.Native.Nat.{ℕ, ◌+◌, ◌*◌, ◌/◌, ◌<◌}
use native.Mathlib.Numerals.{add-one}
use native.Mathlib.Omega.{arith}
use lib.IntN.{ℤ, pos}
use lib.ListN.{length, take, drop, get_or, set, length-map, get_or-map}
use lib.Seq.{take-suc, take-suc-set}
use Rattle.laws.specs.Bytes.{from_low, numbers_of}
use Rattle.laws.proofs.Bytes.{low_byte, number_at, length_numbers}
use Rattle.crossing.specs.Signed.{signed}
use Rattle.c_audio.specs.Samples.{samples_in}

pub two_bytes : (lent : List ℕ) (k k1 : ℕ) → k1 ≡ k + 1 → k + 1 < length lent
    → from_low (take 2 (drop k lent)) ≡ get_or lent k 0 + 256 * (get_or lent k1 0 + 256 * 0)
two_bytes lent k k1 e h =
    let l : from_low (take 1 (drop k1 lent)) ≡ get_or lent k1 0 + 256 * 0 = low_byte 0 lent k1 (omega arith) in
    low_byte 1 lent k (omega arith) ∙ ap (λ (y : ℕ). get_or lent k 0 + 256 * from_low (take 1 (drop y lent))) (sym e) ∙ ap (λ (y : ℕ). get_or lent k 0 + 256 * y) l

pub sample_of : (lent : List ℕ) (i : ℕ) → i < length lent / 2 → get_or (samples_in lent) i (pos 0) ≡ signed 16 (from_low (take 2 (drop (2 * i) lent)))
sample_of lent i h =
    get_or-map (signed 16) (numbers_of 2 (length lent / 2) lent) i 0 ∙ ap (signed 16) (number_at 2 (length lent / 2) lent i h)

pub length_samples : (lent : List ℕ) → length (samples_in lent) ≡ length lent / 2
length_samples lent = length-map (numbers_of 2 (length lent / 2) lent) (signed 16) ∙ length_numbers 2 (length lent / 2) lent

pub one_more : (whole l : List ℤ) (i : ℕ) (x : ℤ) → i < length whole → i < length l → take i l ≡ take i whole → x ≡ get_or whole i (pos 0)
    → take (i + 1) (set l i x) ≡ take (i + 1) whole
one_more whole l i x h room e v =
    ap (λ (k : ℕ). take k (set l i x)) (add-one i) ∙ take-suc-set l i x room ∙ ap₂ (λ (a : List ℤ) (y : ℤ). a ++ (y ∷ [])) e v
    ∙ sym (take-suc whole i (pos 0) h) ∙ ap (λ (k : ℕ). take k whole) (sym (add-one i))
