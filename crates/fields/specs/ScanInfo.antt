-- S: how the picture is scanned: the numbers, and what a decision on a number answers.
use Rattle.refusal.specs.declared.Refusal.{Refusal}
use Rattle.std.specs.Prelude.{List, [], ◌∷◌, ℕ, Result}
use Rattle.fields.specs.declared.ScanInfo.{ScanInfo}
use Rattle.fields.specs.declared.ScanInfo.TheVariants.{NoData, Overscan, Underscan}
use Rattle.fields.specs.Numbers.{decided}

abbrev pub scan_number : ScanInfo → ℕ
scan_number NoData = 0
scan_number Overscan = 1
scan_number Underscan = 2

abbrev pub scan_numbers : List ℕ
scan_numbers = 0 ∷ 1 ∷ 2 ∷ []

abbrev pub scan_decided : ℕ → Result ScanInfo Refusal → Type 0
scan_decided = decided scan_number scan_numbers
