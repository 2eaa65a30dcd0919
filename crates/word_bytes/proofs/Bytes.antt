-- A word of four bytes at a place.
use mathlib.Core.Path.{◌≡◌, sym, ap, ◌∙◌}
use mathlib.Core.List.{List}
use Prim.Native.Nat.{ℕ, ◌+◌, ◌*◌, ◌<◌}
use native.Mathlib.Omega.{arith}
use lib.ListN.{length, take, drop, get_or}
use Rattle.laws.specs.Bytes.{from_low}
use Rattle.laws.proofs.Bytes.{low_byte}

pub four_bytes : (lent : List ℕ) (k k1 k2 k3 : ℕ) → k1 ≡ k + 1 → k2 ≡ k + 2 → k3 ≡ k + 3 → k + 3 < length lent
    → from_low (take 4 (drop k lent)) ≡ get_or lent k 0 + 256 * (get_or lent k1 0 + 256 * (get_or lent k2 0 + 256 * (get_or lent k3 0 + 256 * 0)))
four_bytes lent k k1 k2 k3 e1 e2 e3 h =
    let s2 : k2 ≡ k1 + 1 = omega arith in
    let s3 : k3 ≡ k2 + 1 = omega arith in
    let l3 : from_low (take 1 (drop k3 lent)) ≡ get_or lent k3 0 + 256 * 0 = low_byte 0 lent k3 (omega arith) in
    let l2 : from_low (take 2 (drop k2 lent)) ≡ get_or lent k2 0 + 256 * (get_or lent k3 0 + 256 * 0) =
    low_byte 1 lent k2 (omega arith) ∙ ap (λ (y : ℕ). get_or lent k2 0 + 256 * from_low (take 1 (drop y lent))) (sym s3) ∙ ap (λ (y : ℕ). get_or lent k2 0 + 256 * y) l3 in
    let l1 : from_low (take 3 (drop k1 lent)) ≡ get_or lent k1 0 + 256 * (get_or lent k2 0 + 256 * (get_or lent k3 0 + 256 * 0)) =
    low_byte 2 lent k1 (omega arith) ∙ ap (λ (y : ℕ). get_or lent k1 0 + 256 * from_low (take 2 (drop y lent))) (sym s2) ∙ ap (λ (y : ℕ). get_or lent k1 0 + 256 * y) l2 in
    low_byte 3 lent k (omega arith) ∙ ap (λ (y : ℕ). get_or lent k 0 + 256 * from_low (take 3 (drop y lent))) (sym e1) ∙ ap (λ (y : ℕ). get_or lent k 0 + 256 * y) l1
