-- `island_reader::guards`: the guard words that were looked at are word 0's.
use mathlib.Core.Path.{◌≡◌}
use Prim.Native.Nat.{ℕ, ◌≤◌}
use lib.ListN.{get_or}
use Rattle.island_reader.specs.Read.{guard_place}
use Rattle.island_reader.proofs.guards.Given as goal

abbrev pub invariant-loop-at : goal.invariant-loop-at
invariant-loop-at l = (j : ℕ) → j ≤ l.at-index → get_or l.words (guard_place j) 0 ≡ get_or l.words 0 0
