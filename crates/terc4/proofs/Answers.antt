-- What the two entries answer: a number is refused exactly above 15, a symbol exactly when it is none of the sixteen, and reading inverts writing.
use mathlib.Core.Path.{◌≡◌, refl, ap, ◌∙◌}
use mathlib.Core.Bool.{Bool, true, false}
use Prim.Native.Nat.{ℕ, ◌<◌}
use native.Mathlib.Omega.{arith}
use borrow.Author.Tests.{ltb-true, ltb-false, lt-ltb}
use lib.Dec.{T, ltb}
use Rattle.std.specs.Prelude.{Ok, Err}
use Rattle.refusal.specs.declared.Refusal.{Refusal}
use Rattle.refusal.specs.declared.Refusal.TheVariants.{NotTerc4}
use Rattle.refusal.specs.Verdict.{unless, answered, rising}
use Rattle.hdmi.specs.Terc4.{terc4, terc4_number}
use Rattle.hdmi.proofs.Terc4.{number_terc4, terc4_number_lem}
use Rattle.terc4.specs.Terc4.{symbol_asks, symbol_answer, read_asks, read_answer}

pub symbol_in_order : (n : ℕ) → T (rising (symbol_asks n))
symbol_in_order n = tt

pub read_in_order : (x : ℕ) → T (rising (read_asks x))
read_in_order x = tt

-- reading inverts writing
pub read_symbol : (n : ℕ) → n < 16 → (symbol_answer n ≡ Ok (record { 0 = terc4 n })) × (read_answer (terc4 n) ≡ Ok n)
read_symbol n h = (simp (lt-ltb n 16 h), simp (number_terc4 n h, lt-ltb n 16 h))

-- a symbol that is read is the one written for the answer, so no second number fits
number_by : (t : Bool) (x n : ℕ) → ltb (terc4_number x) 16 ≡ t → answered (unless t (NotTerc4 0) (Ok tt)) (Ok (terc4_number x)) Err ≡ Ok n
    → (n < 16) × (x ≡ terc4 n)
number_by true x n e h =
    let same : terc4_number x ≡ n = cc in
    let l : terc4_number x < 16 = ltb-true (terc4_number x) 16 e in
    (omega arith, terc4_number_lem x l ∙ ap terc4 same)
number_by false x n e h = let z : ◌≡◌ {A = ℕ} 0 1 = cc in absurd (omega arith)

pub number_means : (x n : ℕ) → read_answer x ≡ Ok n → (n < 16) × (x ≡ terc4 n)
number_means x n h = number_by (ltb (terc4_number x) 16) x n refl h

-- and one that is refused is none of the sixteen
refused_by : (t : Bool) (x n : ℕ) (r : Refusal) → ltb (terc4_number x) 16 ≡ t → answered (unless t (NotTerc4 0) (Ok tt)) (Ok (terc4_number x)) Err ≡ Err r
    → n < 16 → x ≡ terc4 n → ⊥
refused_by true x n r e h l d = let z : ◌≡◌ {A = ℕ} 0 1 = cc in omega arith
refused_by false x n r e h l d = omega (arith, ltb-false (terc4_number x) 16 e, ap terc4_number d ∙ number_terc4 n l)

pub refused_means : (x n : ℕ) (r : Refusal) → read_answer x ≡ Err r → n < 16 → x ≡ terc4 n → ⊥
refused_means x n r h = refused_by (ltb (terc4_number x) 16) x n r refl h
