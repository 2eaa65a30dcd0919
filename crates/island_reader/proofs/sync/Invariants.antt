-- `island_reader::sync`: the words before 2 + k have the pair and the marker, and word 2 + k's are wanted.
use mathlib.Core.Path.{◌≡◌}
use mathlib.Core.Bool.{false}
use Prim.Native.Nat.{ℕ, ◌+◌, ◌<◌}
use Rattle.hdmi.specs.Island.{marker}
use Rattle.island_reader.specs.Numbers.{sync_unlike}
use Rattle.island_reader.proofs.sync.Given as goal

abbrev pub invariant-loop-k : goal.invariant-loop-k
invariant-loop-k l = (l.want ≡ l.hv + marker l.k) × ((j : ℕ) → j < l.k → sync_unlike l.hv l.found (2 + j) ≡ false)
