-- The symbols in a buffer of bytes, one by one and in pairs.
use mathlib.Core.Path.{◌≡◌, sym, ap, ◌∙◌}
use mathlib.Core.List.{List, []}
use Prim.Native.Nat.{ℕ, zero, suc, ◌+◌, ◌*◌, ◌/◌, ◌%◌, ◌<◌}
use native.Mathlib.Omega.{arith}
use lib.ListN.{length, take, drop, get_or}
use Rattle.laws.specs.Bytes.{from_low}
use Rattle.laws.proofs.Bytes.{low_byte, number_at, length_numbers}
use Rattle.std.specs.Int.{from_le_bytes}
use Rattle.std.specs.Simd.{first_chunks}
use mir.Syntax.{w8, w32}
use mir.Val.{Fits}
use Rattle.std.proofs.Common.{drop-drop, get_or-take, get_or-drop}
use Rattle.row_reader.specs.Wire.{symbols_in}

pub count_in : (lent : List ℕ) → length (symbols_in lent) ≡ length lent / 2
count_in lent = length_numbers 2 (length lent / 2) lent

two_bytes : (lent : List ℕ) (k : ℕ) → k + 1 < length lent → from_low (take 2 (drop k lent)) ≡ get_or lent k 0 + 256 * get_or lent (k + 1) 0
two_bytes lent k h =
    let high : from_low (take 1 (drop (k + 1) lent)) ≡ get_or lent (k + 1) 0 + 256 * 0 = low_byte 0 lent (k + 1) h in
    low_byte 1 lent k (omega arith) ∙ ap (λ (y : ℕ). get_or lent k 0 + 256 * y) (omega arith)

pub symbol_in : (lent : List ℕ) (i : ℕ) → i < length lent / 2 → get_or lent (2 * i) 0 + 256 * get_or lent (2 * i + 1) 0 ≡ get_or (symbols_in lent) i 0
symbol_in lent i h = sym (number_at 2 (length lent / 2) lent i h ∙ two_bytes lent (2 * i) (omega arith))

-- and the two of a pair
module _ (lent : List ℕ) (k : ℕ) (h : k < length lent / 4) where
  pub first_in : get_or lent (4 * k) 0 + 256 * get_or lent (4 * k + 1) 0 ≡ get_or (symbols_in lent) (2 * k) 0
  first_in =
      let i : 4 * k ≡ 2 * (2 * k) = omega arith in
      ap (λ (n : ℕ). get_or lent n 0 + 256 * get_or lent (n + 1) 0) i ∙ symbol_in lent (2 * k) (omega arith)

  pub second_in : get_or lent (4 * k + 2) 0 + 256 * get_or lent (4 * k + 3) 0 ≡ get_or (symbols_in lent) (2 * k + 1) 0
  second_in =
      let i : 4 * k + 2 ≡ 2 * (2 * k + 1) = omega arith in
      let j : 4 * k + 3 ≡ 4 * k + 2 + 1 = omega arith in
      ap (λ (n : ℕ). get_or lent (4 * k + 2) 0 + 256 * get_or lent n 0) j
      ∙ ap (λ (n : ℕ). get_or lent n 0 + 256 * get_or lent (n + 1) 0) i ∙ symbol_in lent (2 * k + 1) (omega arith)

-- and a pair as one chunk of four bytes
chunk_at : (n m k : ℕ) (xs : List ℕ) → k < m → get_or (first_chunks n m xs) k [] ≡ take n (drop (n * k) xs)
chunk_at n zero k xs h = absurd (omega arith)
chunk_at n (suc m) zero xs h = let e : n * 0 ≡ 0 = omega arith in ap (λ (j : ℕ). take n (drop j xs)) (sym e)
chunk_at n (suc m) (suc k) xs h =
    let e : n * suc k ≡ n + n * k = omega arith in
    chunk_at n m k (drop n xs) (omega arith) ∙ ap (take n) (drop-drop (n * k) n xs) ∙ ap (λ (j : ℕ). take n (drop j xs)) (sym e)

halves : (a b c d w : ℕ) → w ≡ a + b * 256 + c * 65536 + d * 16777216 → a < 256 → b < 256 → (w % 65536 ≡ a + 256 * b) × (w / 65536 ≡ c + 256 * d)
halves a b c d w e f g = (omega (arith, e, f, g), omega (arith, e, f, g))

-- whose number is both symbols, the first in its low half
module _ (lent : List ℕ) (bytes : (i : ℕ) → Fits w8 (get_or lent i 0)) (chunks : List (List ℕ)) (front : chunks ≡ first_chunks 4 (length lent / 4) lent)
    (k : ℕ) (h : k < length lent / 4) where
  byte_in : (j : ℕ) → j < 4 → get_or (get_or chunks k []) j 0 ≡ get_or lent (4 * k + j) 0
  byte_in j l = rw (front, chunk_at 4 (length lent / 4) k lent h, get_or-take, get_or-drop)

  pub pair_in : (w : ℕ) → w ≡ from_le_bytes w32 (get_or chunks k []) → (w % 65536 ≡ get_or (symbols_in lent) (2 * k) 0) × (w / 65536 ≡ get_or (symbols_in lent) (2 * k + 1) 0)
  pair_in w e =
      let z : 4 * k + 0 ≡ 4 * k = omega arith in
      let f = rw (byte_in 0 (omega arith), byte_in 1 (omega arith), byte_in 2 (omega arith), byte_in 3 (omega arith), z) at e in
      let r = halves (get_or lent (4 * k) 0) (get_or lent (4 * k + 1) 0) (get_or lent (4 * k + 2) 0) (get_or lent (4 * k + 3) 0) w f (bytes (4 * k)).fits (bytes (4 * k + 1)).fits in
      (r.0 ∙ first_in lent k h, r.1 ∙ second_in lent k h)
