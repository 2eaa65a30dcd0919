-- The language's count of ones is the definition's, and the machine's sum of a discrepancy and a symbol's ones less five is that of the integers.
use mathlib.Core.Path.{◌≡◌, refl}
use mathlib.Core.Bool.{Bool, true, false}
use Prim.Native.Nat.{ℕ, ◌<◌, ◌^◌}
use native.Mathlib.Omega.{arith}
use borrow.Author.Tests.{eq-eqb, ne_eqb}
use lib.Count.{ones, ones_in, ones-le}
use lib.Dec.{T, ltb, ltb→lt}
use lib.IntN.{ℤ, pos, negsuc, ◌+ℤ◌, ◌-ℤ◌}
use lib.Signed.{mag}
use mir.Syntax.{w32}
use mir.Val.{to_z, of_z, SFits}
use Rattle.laws.proofs.Finite.{agreed, below}
use Rattle.laws.proofs.Integers.{over, over-integer}
use Rattle.dvi.specs.Encoder.{is_zero}
use Rattle.dvi.specs.Plain.{ones_of}
use Rattle.dvi.specs.Symbol.{in_range}

pub count_ones : (s : ℕ) → s < 1024 → ones s ≡ ones_of 10 s
unfolding ones ones_in
count_ones s l = agreed ones (ones_of 10) 1024 tt s l

pub ones_small : (s : ℕ) → s < 1024 → ones s < 11
ones_small s l = omega (arith, ones-le 10 s l)

-- a number as it is read back from the machine's 32 bits
abbrev pub read : ℤ → ℤ
read z = to_z w32 (of_z w32 z)

abbrev fitting : ℤ → Bool
fitting z = ltb (mag z) (2 ^ 31)

pub less_five_fits : (n : ℕ) → n < 11 → SFits w32 (to_z w32 n -ℤ pos 5)
less_five_fits n l = record { sfits = ltb→lt (mag (to_z w32 n -ℤ pos 5)) (2 ^ 31) (below (λ n. fitting (to_z w32 n -ℤ pos 5)) 11 tt n l) }

module _ (d : ℤ) (h : T (in_range d)) (n : ℕ) (l : n < 11) where
  pub sum_fits : SFits w32 (read d +ℤ read (to_z w32 n -ℤ pos 5))
  sum_fits = record {
    sfits = ltb→lt (mag (read d +ℤ read (to_z w32 n -ℤ pos 5))) (2 ^ 31) (over 3 4 11 d h n l (λ d n. fitting (read d +ℤ read (to_z w32 n -ℤ pos 5))) tt);
  }

  pub sum-read : read (read d +ℤ read (to_z w32 n -ℤ pos 5)) ≡ d +ℤ (pos n -ℤ pos 5)
  sum-read = over-integer 3 4 11 d h n l (λ d n. read (read d +ℤ read (to_z w32 n -ℤ pos 5))) (λ d n. d +ℤ (pos n -ℤ pos 5)) tt

-- the machine's test for 0
pub reads_zero : (z : ℤ) → SFits w32 z → of_z w32 z ≡ 0 → is_zero z ≡ true
reads_zero (pos n) f e = eq-eqb n 0 e
reads_zero (negsuc n) f e = absurd (omega arith)

pub reads_other : (z : ℤ) → (of_z w32 z ≡ 0 → ⊥) → is_zero z ≡ false
reads_other (pos n) h = ne_eqb n 0 h
reads_other (negsuc n) h = refl
