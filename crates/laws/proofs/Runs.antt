-- A run of stores into a list: what then stands in front.
use mathlib.Core.Path.{◌≡◌, ap, ◌∙◌}
use mathlib.Core.List.{List, ◌++◌}
use Prim.Native.Nat.{ℕ, ◌+◌, ◌≤◌}
use native.Mathlib.Omega.{arith}
use lib.ListN.{length, take, drop, length-append}
use lib.Seq.{sets, sets-eq, length-take-le, take_at}

-- up to the end of the run: what stood before it, then what was stored
pub take-sets : (vs l : List ℕ) (i : ℕ) → i + length vs ≤ length l → take (i + length vs) (sets l i vs) ≡ take i l ++ vs
take-sets vs l i h =
    let k : i ≤ length l = omega arith in
    let e : length (take i l ++ vs) ≡ i + length vs = simp (length-append, length-take-le i l k) in
    ap (take (i + length vs)) (sets-eq vs l i h) ∙ take_at (take i l ++ vs) (drop (i + length vs) l) (i + length vs) e
