-- How far the reader is along a row: what is known to be data, and what is unpacked.
use Rattle.std.specs.Prelude.{true, List, ◌≡◌, ℕ, ◌<◌, get_or, take, drop, ◌++◌}
use Rattle.dvi.specs.Decoder.{is_data}
use Rattle.dvi.specs.Row.{row_bytes}

-- the first n are data symbols
abbrev pub DataTo : List ℕ → ℕ → Type 0
DataTo ss n = (j : ℕ) → j < n → is_data (get_or ss j 0) ≡ true

-- the bytes of the first n stand in the buffer, and those that the symbols left will give complete the row's
pub record Unpacked (ss out : List ℕ) (n : ℕ) : Type 0 where
  pub row : take n out ++ row_bytes (drop n ss) ≡ row_bytes ss
