-- A bit of the map is its number's test.
use mathlib.Core.Path.{◌≡◌, ap, ◌∙◌}
use mathlib.Core.Bool.{Bool, true, false}
use Prim.Native.Nat.{ℕ, ◌+◌, ◌*◌, ◌/◌, ◌%◌, ◌<◌, ◌^◌}
use native.Mathlib.Omega.{arith}
use Rattle.laws.specs.Bit.{bit}
use Rattle.laws.proofs.Digits.{bits_bit}
use Rattle.dvi.specs.Decoder.{is_data}
use Rattle.dvi.specs.Plain.{flag}
use Rattle.charts.specs.Map.{map_of}

flag_small : (t : Bool) → flag t < 2
flag_small true = omega arith
flag_small false = omega arith

pub map_bit : (s : ℕ) → map_of (s / 32) / 2 ^ (s % 32) % 2 ≡ flag (is_data s)
unfolding bit
map_bit s =
    let f : ℕ → ℕ = λ k. flag (is_data (32 * (s / 32) + k)) in
    let whole : 32 * (s / 32) + s % 32 ≡ s = omega arith in
    bits_bit f (λ k. flag_small (is_data (32 * (s / 32) + k))) 32 (s % 32) (omega arith) ∙ ap (λ (x : ℕ). flag (is_data x)) whole
