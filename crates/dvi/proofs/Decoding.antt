-- The chart's decoder undoes the encoder, so a data symbol has one byte; and a test that computes decides which numbers are data symbols.
use mathlib.Core.Path.{◌≡◌, sym, ◌∙◌}
use mathlib.Core.Bool.{Bool, false, not, ◌||◌}
use mathlib.Core.Logic.{⊎_elim}
use Prim.Native.Nat.{ℕ, ◌<◌}
use lib.Dec.{T, ltb, ltb→lt, eqb, eqb→eq}
use lib.IntN.{ℤ, pos, negsuc}
use Rattle.laws.proofs.Truth.{and_left, and_right, or_either, false_T, T_false}
use Rattle.laws.proofs.Finite.{below, bounded}
use Rattle.laws.proofs.Integers.{over, over-number}
use Rattle.dvi.specs.Control.{control}
use Rattle.dvi.specs.Symbol.{in_range, symbol_of, Encodes, DataSymbol}
use Rattle.dvi.specs.Decoder.{byte_of, is_data}
use Rattle.dvi.proofs.Symbols.{symbol_small}

module _ (d : ℤ) (h : T (in_range d)) (b : ℕ) (l : b < 256) where
  pub read_back : byte_of (symbol_of d b) ≡ b
  unfolding symbol_of byte_of
  read_back = over-number 3 4 256 d h b l (λ d b. byte_of (symbol_of d b)) (λ d b. b) tt

  pub symbol_is_data : T (is_data (symbol_of d b))
  unfolding symbol_of byte_of is_data
  symbol_is_data = over 3 4 256 d h b l (λ d b. is_data (symbol_of d b)) tt

-- every number has a byte, data symbol or not
pub byte_small : (s : ℕ) → s < 1024 → byte_of s < 256
unfolding byte_of
byte_small s l = bounded byte_of 256 1024 tt s l

-- a symbol's byte is the decoder's, so no other byte has that symbol
pub the_byte : {s b : ℕ} {d : ℤ} → Encodes s b d → byte_of s ≡ b
the_byte {s} {b} {d} e = rw (sym e.gives) (read_back d e.range b e.byte)

pub one_byte : {s b c : ℕ} {d e : ℤ} → Encodes s b d → Encodes s c e → b ≡ c
one_byte p q = sym (the_byte p) ∙ the_byte q

pub data_small : {s b : ℕ} {d : ℤ} → Encodes s b d → s < 1024
data_small {s} {b} {d} e = rw e.gives at (symbol_small d e.range b e.byte)

-- ---- the test decides

pub data_test : {s : ℕ} → DataSymbol s → T (is_data s)
data_test {s} p = rw p.2.gives at (symbol_is_data p.1 p.2.range p.0 p.2.byte)

module _ (s : ℕ) where
  pub is_small : T (is_data s) → s < 1024
  unfolding is_data
  is_small t = ltb→lt s 1024 (and_left (ltb s 1024) (at (pos 0) || at (pos 1) || at (negsuc 0)) t)
    where
      at : ℤ → Bool
      at z = eqb (symbol_of z (byte_of s)) s

  -- the encoder sends s for the decoder's byte at z
  sent_at : s < 1024 → (z : ℤ) → T (in_range z) → T (eqb (symbol_of z (byte_of s)) s) → (d : ℤ) × Encodes s (byte_of s) d
  sent_at l z h t = (z, record { range = h; byte = byte_small s l; gives = eqb→eq (symbol_of z (byte_of s)) s t })

  pub test_data : T (is_data s) → (d : ℤ) × Encodes s (byte_of s) d
  unfolding is_data
  test_data t =
      let at : ℤ → Bool = λ z. eqb (symbol_of z (byte_of s)) s in
      let l = is_small t in
      ⊎_elim
      (λ u. ⊎_elim (sent_at l (pos 0) tt) (sent_at l (pos 1) tt) (or_either (at (pos 0)) (at (pos 1)) u))
      (sent_at l (negsuc 0) tt)
      (or_either (at (pos 0) || at (pos 1)) (at (negsuc 0)) (and_right (ltb s 1024) (at (pos 0) || at (pos 1) || at (negsuc 0)) t))

pub not_data : {s : ℕ} → is_data s ≡ false → DataSymbol s → ⊥
not_data e p = false_T e (data_test p)

-- no control symbol is a data symbol: a lane that is between rows is never taken for one that isn't
pub control_not_data : (n : ℕ) → n < 4 → DataSymbol (control n) → ⊥
unfolding control symbol_of byte_of is_data
control_not_data n l = not_data (T_false (below (λ n. not (is_data (control n))) 4 tt n l))
