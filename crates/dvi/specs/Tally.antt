-- A byte with one symbol and a byte with two, whatever the discrepancy.
use Rattle.std.specs.Prelude.{◌⊎◌, ◌≡◌, ℕ, T, ℤ}
use Rattle.dvi.specs.Symbol.{in_range, symbol_of}

-- the byte has the symbol s at some discrepancy
abbrev pub Has : ℕ → ℕ → Type 0
Has b s = (d : ℤ) × T (in_range d) × (symbol_of d b ≡ s)

pub record OneSymbol (b : ℕ) : Type 0 where
  pub symbol : ℕ
  pub only : (d : ℤ) → T (in_range d) → symbol_of d b ≡ symbol

pub record TwoSymbols (b : ℕ) : Type 0 where
  pub first : ℕ
  pub second : ℕ
  pub differ : first ≡ second → ⊥
  pub has_first : Has b first
  pub has_second : Has b second
  pub only : (d : ℤ) → T (in_range d) → (symbol_of d b ≡ first) ⊎ (symbol_of d b ≡ second)
