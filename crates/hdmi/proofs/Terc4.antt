-- The sixteen TERC4 symbols: ten bits each, no two the same, and each is read as its own number.
use mathlib.Core.Path.{◌≡◌, sym, ap, ◌∙◌}
use Prim.Native.Nat.{ℕ, ◌≤◌, ◌<◌}
use borrow.Author.Tests.{eqb-true}
use native.Mathlib.Decide.{dec_lt}
use native.Mathlib.Omega.{arith}
use lib.Dec.{eqb}
use Rattle.laws.proofs.Finite.{agreed, bounded}
use Rattle.laws.proofs.Searching.{first_le, found}
use Rattle.hdmi.specs.Terc4.{terc4, terc4_number}

pub terc4_lt : (n : ℕ) → n < 16 → terc4 n < 1024
unfolding terc4
terc4_lt = bounded terc4 1024 16 tt

-- reading inverts writing
pub number_terc4 : (n : ℕ) → n < 16 → terc4_number (terc4 n) ≡ n
unfolding terc4_number terc4
number_terc4 = agreed (λ n. terc4_number (terc4 n)) (λ n. n) 16 tt

pub number_le : (x : ℕ) → terc4_number x ≤ 16
unfolding terc4_number
number_le x = first_le (λ n. eqb x (terc4 n)) 0 16

-- what reads as a number is that number's symbol
pub terc4_number_lem : (x : ℕ) → terc4_number x < 16 → x ≡ terc4 (terc4_number x)
unfolding terc4_number
terc4_number_lem x h = eqb-true x (terc4 (terc4_number x)) (found (λ n. eqb x (terc4 n)) 0 16 h)

-- sixteen different symbols: no second number fits one
pub terc4_injective : (m n : ℕ) → m < 16 → n < 16 → terc4 m ≡ terc4 n → m ≡ n
terc4_injective m n hm hn e = sym (number_terc4 m hm) ∙ ap terc4_number e ∙ number_terc4 n hn

-- a symbol of ten bits: no greater number is read as one
pub number_lt : (x : ℕ) → terc4_number x < 16 → x < 1024
number_lt x h = rw (terc4_number_lem x h) (terc4_lt (terc4_number x) h)

none_by : (x : ℕ) → 1024 ≤ x → Dec (terc4_number x < 16) → terc4_number x ≡ 16
none_by x h (yes l) = absurd (omega (arith, number_lt x l))
none_by x h (no l) = omega (arith, l, number_le x)

pub number_none : (x : ℕ) → 1024 ≤ x → terc4_number x ≡ 16
number_none x h = none_by x h (dec_lt (terc4_number x) 16)
