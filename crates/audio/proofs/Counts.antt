-- A count within its block, and the mark of the frame that starts one.
use mathlib.Core.Path.{◌≡◌, ap}
use mathlib.Core.Bool.{true}
use mathlib.Core.Logic.{⊎_elim}
use Prim.Native.Nat.{ℕ, ◌≤◌, ◌<◌, min}
use native.Mathlib.Omega.{arith}
use borrow.Author.Tests.{le-ltb}
use lib.Dec.{leb, leb→le}
use lib.IntN.{ℤ, pos, negsuc, nat_abs}
use mir.Syntax.{w32}
use mir.Val.{of_z, to_z}
use mir.Facts.{to_z_pos}
use Rattle.std.proofs.lemmas.Bool.{cases_lt}
use Rattle.laws.specs.Range.{between}
use Rattle.laws.proofs.Truth.{true_T, and_right}
use Rattle.hdmi.specs.Audio.{block_start}

-- a count of 0..191 is a natural number, and its 32 bits are that number's
pub record Within (z : ℤ) : Type 0 where
  pub bounded : nat_abs z < 192
  pub bits : of_z w32 (to_z w32 (of_z w32 z)) ≡ nat_abs z

pub within : (z : ℤ) → between (pos 0) (pos 191) z ≡ true → Within z
within (pos n) e =
    let small : n ≤ 191 = leb→le n 191 (and_right (leb 0 n) (leb n 191) (true_T e)) in
    record { bounded = omega arith; bits = ap (of_z w32) (to_z_pos w32 {n = n} (omega arith)) }
within (negsuc n) e = absurd (cc)

-- of the counts from 4 on none marks a frame
pub start_within : (n c m : ℕ) → m ≡ min c 4 → block_start n m ≡ block_start n c
start_within n c m e =
    ⊎_elim
    (λ (l : c < 4). let same : m ≡ c = omega arith in ap (block_start n) same)
    (λ (g : 4 ≤ c). let four : m ≡ 4 = omega arith in rw (four, le-ltb c 4 g))
    (cases_lt c 4)
