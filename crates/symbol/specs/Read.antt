-- What reading a symbol answers, stated as existence: a byte that some discrepancy in -4..4 encodes to it, and a refusal exactly when there is none.
use Rattle.refusal.specs.declared.Refusal.{Refusal}
use Rattle.std.specs.Prelude.{◌≡◌, ℕ, ℤ, Result, Ok, Err}
use Rattle.dvi.specs.Symbol.{Encodes, DataSymbol}
use Rattle.refusal.specs.declared.Refusal.TheVariants.{NotData}

abbrev pub Reads : ℕ → Result ℕ Refusal → Type 0
Reads s (Ok b) = (d : ℤ) × Encodes s b d
Reads s (Err r) = (r ≡ NotData 0) × (DataSymbol s → ⊥)
