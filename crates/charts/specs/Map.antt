-- The reader's map: a bit for each number of ten bits, set where it is a data symbol, 32 to a word.
use Rattle.std.specs.Prelude.{ℕ, ◌+◌, ◌*◌}
use Rattle.laws.specs.Digits.{numeral}
use Rattle.dvi.specs.Decoder.{is_data}
use Rattle.dvi.specs.Plain.{flag}

-- word i of the map
abbrev pub map_of : ℕ → ℕ
map_of i = numeral 1 (λ k. flag (is_data (32 * i + k))) 0 32
