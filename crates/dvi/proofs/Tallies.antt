-- How many data symbols there are: 460 of the 1,024 numbers of ten bits; 204 bytes have two, 52 have one.
use mathlib.Core.Path.{◌≡◌, refl, sym, ◌∙◌}
use mathlib.Core.Bool.{Bool, true, false, not, ◌||◌}
use mathlib.Core.Logic.{◌⊎◌, ⊎_elim, inl, inr}
use Prim.Native.Nat.{ℕ, ◌<◌}
use lib.Dec.{T, eqb, eqb→eq}
use lib.IntN.{ℤ, pos, negsuc}
use borrow.Author.Tests.{eq-eqb, not-true, not-false}
use Rattle.laws.specs.Count.{Count}
use Rattle.laws.proofs.Truth.{true_T, false_T, or_either}
use Rattle.laws.proofs.Finite.{below}
use Rattle.laws.proofs.Integers.{span, each}
use Rattle.laws.proofs.Counting.{tally, tallied}
use Rattle.dvi.specs.Symbol.{in_range, symbol_of, DataSymbol}
use Rattle.dvi.specs.Decoder.{byte_of, is_data}
use Rattle.dvi.specs.Tally.{OneSymbol, TwoSymbols}
use Rattle.dvi.proofs.Decoding.{test_data, not_data}

data_tally : tally is_data 1024 ≡ 460
unfolding symbol_of byte_of is_data
data_tally = refl

pub data_symbols : Count DataSymbol 1024 460
data_symbols =
    rw data_tally at
    (tallied DataSymbol is_data 1024 (λ s l e. let p = test_data s (true_T e) in (byte_of s, p.0, p.1)) (λ s l e. not_data e))

-- ---- bytes: the symbol at 1 and the one at -1 are all that a byte has

abbrev same : ℕ → Bool
same b = eqb (symbol_of (pos 1) b) (symbol_of (negsuc 0) b)

abbrev either : ℕ → ℤ → Bool
either b d = eqb (symbol_of d b) (symbol_of (pos 1) b) || eqb (symbol_of d b) (symbol_of (negsuc 0) b)

no_third : (b : ℕ) → b < 256 → (d : ℤ) → T (in_range d) → (symbol_of d b ≡ symbol_of (pos 1) b) ⊎ (symbol_of d b ≡ symbol_of (negsuc 0) b)
unfolding symbol_of
no_third b l d h =
    ⊎_elim
    (λ t. inl (eqb→eq (symbol_of d b) (symbol_of (pos 1) b) t))
    (λ t. inr (eqb→eq (symbol_of d b) (symbol_of (negsuc 0) b) t))
    (or_either (eqb (symbol_of d b) (symbol_of (pos 1) b)) (eqb (symbol_of d b) (symbol_of (negsuc 0) b))
    (each 3 4 (either b) (below (λ b. span 3 4 (either b)) 256 tt b l) d h))

one : (b : ℕ) → b < 256 → same b ≡ true → OneSymbol b
one b l e =
    let s : symbol_of (pos 1) b ≡ symbol_of (negsuc 0) b = eqb→eq _ _ (true_T e) in
    record { symbol = symbol_of (pos 1) b; only = λ d h. ⊎_elim (λ p. p) (λ p. p ∙ sym s) (no_third b l d h) }

two : (b : ℕ) → b < 256 → same b ≡ false → TwoSymbols b
two b l e = record {
  first = symbol_of (pos 1) b;
  second = symbol_of (negsuc 0) b;
  differ = λ s. false_T e (true_T (eq-eqb _ _ s));
  has_first = (pos 1, tt, refl);
  has_second = (negsuc 0, tt, refl);
  only = no_third b l;
}

-- a byte with two hasn't one
not_both : (b : ℕ) → OneSymbol b → TwoSymbols b → ⊥
not_both b o t =
    let p = t.has_first in
    let q = t.has_second in
    t.differ (sym p.2 ∙ o.only p.0 p.1 ∙ sym (o.only q.0 q.1) ∙ q.2)

one_tally : tally same 256 ≡ 52
unfolding symbol_of
one_tally = refl

two_tally : tally (λ b. not (same b)) 256 ≡ 204
unfolding symbol_of
two_tally = refl

pub bytes_with_one : Count OneSymbol 256 52
bytes_with_one = rw one_tally at (tallied OneSymbol same 256 one (λ b l e o. not_both b o (two b l e)))

pub bytes_with_two : Count TwoSymbols 256 204
bytes_with_two =
    rw two_tally at
    (tallied TwoSymbols (λ b. not (same b)) 256 (λ b l e. two b l (not-true (same b) e)) (λ b l e t. not_both b (one b l (not-false (same b) e)) t))
