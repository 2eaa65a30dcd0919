-- One bit of a number.
use Rattle.std.specs.Prelude.{ℕ, ◌/◌, ◌%◌, ◌^◌}

-- bit k of n, the lowest being bit 0
unfoldable pub bit : ℕ → ℕ → ℕ
bit k n = n / 2 ^ k % 2
