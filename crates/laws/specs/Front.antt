-- A buffer that is being filled from its start.
use Rattle.std.specs.Prelude.{◌≡◌, List, ℕ, length, take}

-- l is as long as the whole, and its first n are the whole's
pub record Front (whole : List ℕ) (n : ℕ) (l : List ℕ) : Type 0 where
  pub long : length l ≡ length whole
  pub same : take n l ≡ take n whole
