-- Theorems of a row, over the definitions alone: cut anywhere it is the same row, it reads back, and every stretch of it is balanced.
use mathlib.Core.Path.{◌≡◌, refl, ap, ap₂, ◌∙◌}
use mathlib.Core.List.{List, [], ◌∷◌, ◌++◌}
use Prim.Native.Nat.{ℕ, zero, suc, ◌+◌, ◌*◌, ◌≤◌, ◌<◌}
use native.Mathlib.Omega.{arith}
use lib.Dec.{T, leb, leb→le}
use lib.IntN.{ℤ, pos, nat_abs, ◌+ℤ◌, ◌*ℤ◌}
use lib.ListN.{length, take, drop, get_or}
use Rattle.laws.specs.Bytes.{Bytes}
use Rattle.laws.proofs.Integers.{each, over-number}
use Rattle.dvi.specs.Decoder.{is_data}
use Rattle.dvi.specs.Plain.{ones_of}
use Rattle.dvi.specs.Row.{dvi_row, dvi_cnt, row_symbols, row_end, row_ones, row_bytes}
use Rattle.dvi.specs.Symbol.{in_range, symbol_of, next_of}
use Rattle.dvi.proofs.Decoding.{read_back, symbol_is_data}
use Rattle.dvi.proofs.Symbols.{stays, twice_next}

-- ---- bytes

-- as a slice of bytes gives it
pub bytes_of : (bs : List ℕ) → ((i : ℕ) → get_or bs i 0 < 256) → Bytes bs
bytes_of [] h = tt
bytes_of (b ∷ bs) h = (h 0, bytes_of bs (λ i. h (suc i)))

pub bytes_take : (n : ℕ) (bs : List ℕ) → Bytes bs → Bytes (take n bs)
bytes_take zero bs h = tt
bytes_take (suc n) [] h = tt
bytes_take (suc n) (b ∷ bs) h = (h.0, bytes_take n bs h.1)

pub bytes_drop : (n : ℕ) (bs : List ℕ) → Bytes bs → Bytes (drop n bs)
bytes_drop zero bs h = h
bytes_drop (suc n) [] h = tt
bytes_drop (suc n) (b ∷ bs) h = bytes_drop n bs h.1

pub bytes_left : (xs ys : List ℕ) → Bytes (xs ++ ys) → Bytes xs
bytes_left [] ys h = tt
bytes_left (x ∷ xs) ys h = (h.0, bytes_left xs ys h.1)

pub bytes_right : (xs ys : List ℕ) → Bytes (xs ++ ys) → Bytes ys
bytes_right [] ys h = h
bytes_right (x ∷ xs) ys h = bytes_right xs ys h.1

-- ---- the row in DVI 1.0's own count

pub row_is_dvi : (d : ℤ) (bs : List ℕ) → T (in_range d) → Bytes bs → row_symbols d bs ≡ dvi_row (pos 2 *ℤ d) bs
unfolding symbol_of
row_is_dvi d [] h k = refl
row_is_dvi d (b ∷ bs) h k =
    ap (λ (l : List ℕ). symbol_of d b ∷ l)
    (row_is_dvi (next_of d b) bs (stays d h b k.0) k.1 ∙ ap (λ (c : ℤ). dvi_row c bs) (twice_next d h b k.0))

pub end_is_dvi : (d : ℤ) (bs : List ℕ) → T (in_range d) → Bytes bs → pos 2 *ℤ row_end d bs ≡ dvi_cnt (pos 2 *ℤ d) bs
end_is_dvi d [] h k = refl
end_is_dvi d (b ∷ bs) h k =
    end_is_dvi (next_of d b) bs (stays d h b k.0) k.1 ∙ ap (λ (c : ℤ). dvi_cnt c bs) (twice_next d h b k.0)

pub end_in_range : (d : ℤ) (bs : List ℕ) → T (in_range d) → Bytes bs → T (in_range (row_end d bs))
end_in_range d [] h k = h
end_in_range d (b ∷ bs) h k = end_in_range (next_of d b) bs (stays d h b k.0) k.1

-- ---- cutting

pub symbols_append : (d : ℤ) (xs ys : List ℕ) → row_symbols d (xs ++ ys) ≡ row_symbols d xs ++ row_symbols (row_end d xs) ys
symbols_append d [] ys = refl
symbols_append d (x ∷ xs) ys = ap (λ (l : List ℕ). symbol_of d x ∷ l) (symbols_append (next_of d x) xs ys)

pub end_append : (d : ℤ) (xs ys : List ℕ) → row_end d (xs ++ ys) ≡ row_end (row_end d xs) ys
end_append d [] ys = refl
end_append d (x ∷ xs) ys = end_append (next_of d x) xs ys

pub length_symbols : (d : ℤ) (bs : List ℕ) → length (row_symbols d bs) ≡ length bs
length_symbols d [] = refl
length_symbols d (b ∷ bs) = ap suc (length_symbols (next_of d b) bs)

take_symbols : (n : ℕ) (d : ℤ) (bs : List ℕ) → take n (row_symbols d bs) ≡ row_symbols d (take n bs)
take_symbols zero d bs = refl
take_symbols (suc n) d [] = refl
take_symbols (suc n) d (b ∷ bs) = ap (λ (l : List ℕ). symbol_of d b ∷ l) (take_symbols n (next_of d b) bs)

drop_symbols : (m : ℕ) (d : ℤ) (bs : List ℕ) → drop m (row_symbols d bs) ≡ row_symbols (row_end d (take m bs)) (drop m bs)
drop_symbols zero d bs = refl
drop_symbols (suc m) d [] = refl
drop_symbols (suc m) d (b ∷ bs) = drop_symbols m (next_of d b) bs

-- ---- reading back

pub reads_back : (d : ℤ) (bs : List ℕ) → T (in_range d) → Bytes bs → row_bytes (row_symbols d bs) ≡ bs
reads_back d [] h k = refl
reads_back d (b ∷ bs) h k =
    ap₂ (λ (x : ℕ) (xs : List ℕ). x ∷ xs) (read_back d h b k.0) (reads_back (next_of d b) bs (stays d h b k.0) k.1)

-- every symbol of a row is a data symbol
pub all_data : (d : ℤ) (bs : List ℕ) → T (in_range d) → Bytes bs → (i : ℕ) → i < length bs → T (is_data (get_or (row_symbols d bs) i 0))
all_data d [] h k i l = absurd (omega arith)
all_data d (b ∷ bs) h k zero l = symbol_is_data d h b k.0
all_data d (b ∷ bs) h k (suc i) l = all_data (next_of d b) bs (stays d h b k.0) k.1 i (omega arith)

-- ---- balance

-- the discrepancy counted from -4 up
abbrev pub biased : ℤ → ℕ
biased d = nat_abs (d +ℤ pos 4)

biased_le : (d : ℤ) → T (in_range d) → biased d ≤ 8
biased_le d h = leb→le (biased d) 8 (each 3 4 (λ d. leb (biased d) 8) tt d h)

one_step : (d : ℤ) → T (in_range d) → (b : ℕ) → b < 256 → biased (next_of d b) + 5 ≡ biased d + ones_of 10 (symbol_of d b)
unfolding symbol_of next_of
one_step d h b l = over-number 3 4 256 d h b l (λ d b. biased (next_of d b) + 5) (λ d b. biased d + ones_of 10 (symbol_of d b)) tt

pub ones_by_ends : (d : ℤ) (bs : List ℕ) → T (in_range d) → Bytes bs → biased (row_end d bs) + 5 * length bs ≡ biased d + row_ones (row_symbols d bs)
ones_by_ends d [] h k = omega arith
ones_by_ends d (b ∷ bs) h k =
    let r = ones_by_ends (next_of d b) bs (stays d h b k.0) k.1 in
    let s = one_step d h b k.0 in
    omega (arith, r, s)

-- the n symbols from index m on: their ones are five a symbol, and at most 8 more or less
pub balanced : (d : ℤ) (m n : ℕ) (bs : List ℕ) → T (in_range d) → Bytes bs
    → (row_ones (take n (drop m (row_symbols d bs))) ≤ 5 * length (take n (drop m (row_symbols d bs))) + 8)
    × (5 * length (take n (drop m (row_symbols d bs))) ≤ row_ones (take n (drop m (row_symbols d bs))) + 8)
balanced d m n bs h k =
    let e = row_end d (take m bs) in
    let cs = take n (drop m bs) in
    let bc = bytes_take n (drop m bs) (bytes_drop m bs k) in
    let he = end_in_range d (take m bs) h (bytes_take m bs k) in
    let p = biased_le e he in
    let q = biased_le (row_end e cs) (end_in_range e cs he bc) in
    let o = ones_by_ends e cs he bc in
    let l = length_symbols e cs in
    rw (drop_symbols m d bs, take_symbols n e (drop m bs)) (omega arith, omega arith)
