-- A range of whole numbers.
use Rattle.std.specs.Prelude.{Bool, ◌&&◌, ℤ}
use Rattle.std.specs.Int.Signed.{le_z}

-- z is low or above, and high or below
abbrev pub between : ℤ → ℤ → ℤ → Bool
between low high z = le_z low z && le_z z high
