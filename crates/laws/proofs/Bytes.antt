-- Numbers as bytes, low byte first: lengths, joining, each number at its place, and that either way undoes the other.
use mathlib.Core.Path.{◌≡◌, refl, sym, ap, ap₂, ◌∙◌}
use mathlib.Core.List.{List, [], ◌∷◌, ◌++◌, append_assoc, append-nil}
use Prim.Native.Nat.{ℕ, zero, suc, ◌+◌, ◌*◌, ◌/◌, ◌%◌, ◌^◌, ◌≤◌, ◌<◌}
use native.Mathlib.Nat.{zero-add, suc-add, mul-suc, add_comm, mul-zero, pow-suc}
use native.Mathlib.Numerals.{add-one}
use native.Mathlib.Omega.{arith}
use lib.ListN.{length, take, drop, get_or, length-append, length-drop}
use lib.Seq.{sets, sets-eq, take_at, take-append-le, drop_at, drop-append-le, drop-drop, drop-cons, length-take-le, take_all}
use Rattle.laws.specs.Bytes.{low_first, from_low, bytes_of, numbers_of, Bytes}

pub length-low_first : (w x : ℕ) → length (low_first w x) ≡ w
length-low_first zero x = refl
length-low_first (suc w) x = ap suc (length-low_first w (x / 256))

pub length_bytes : (w : ℕ) (xs : List ℕ) → length (bytes_of w xs) ≡ w * length xs
length_bytes w [] = sym (mul-zero w)
length_bytes w (x ∷ xs) =
    length-append (low_first w x) (bytes_of w xs)
    ∙ ap₂ (λ (a b : ℕ). a + b) (length-low_first w x) (length_bytes w xs) ∙ add_comm w (w * length xs)
    ∙ sym (mul-suc w (length xs))

pub length_numbers : (w n : ℕ) (bs : List ℕ) → length (numbers_of w n bs) ≡ n
length_numbers w zero bs = refl
length_numbers w (suc n) bs = ap suc (length_numbers w n (drop w bs))

pub bytes_append : (w : ℕ) (xs ys : List ℕ) → bytes_of w (xs ++ ys) ≡ bytes_of w xs ++ bytes_of w ys
bytes_append w [] ys = refl
bytes_append w (x ∷ xs) ys = ap (λ (l : List ℕ). low_first w x ++ l) (bytes_append w xs ys) ∙ sym (append_assoc (low_first w x) (bytes_of w xs) (bytes_of w ys))

-- where the first are whole numbers
pub numbers_append : (w m n : ℕ) (xs ys : List ℕ) → length xs ≡ w * m → numbers_of w (m + n) (xs ++ ys) ≡ numbers_of w m xs ++ numbers_of w n ys
numbers_append w zero n xs ys e =
    empty xs (e ∙ mul-zero w) ∙ ap (λ (k : ℕ). numbers_of w k ys) (zero-add n)
  where
    empty : (xs : List ℕ) → length xs ≡ 0 → numbers_of w (0 + n) (xs ++ ys) ≡ numbers_of w (0 + n) ys
    empty [] h = refl
    empty (x ∷ xs) h = absurd (omega (arith, h))
numbers_append w (suc m) n xs ys e =
    let long : w ≤ length xs = omega (arith, e, mul-suc w m) in
    let rest : length (drop w xs) ≡ w * m = length-drop w xs ∙ omega (arith, e, mul-suc w m) in
    rw (suc-add m n)
    (ap₂ (λ (a : ℕ) (l : List ℕ). a ∷ l) (ap from_low (take-append-le w xs ys long))
    (ap (numbers_of w (m + n)) (drop-append-le w xs ys long) ∙ numbers_append w m n (drop w xs) ys rest))

-- number i of the bytes
pub number_at : (w n : ℕ) (bs : List ℕ) (i : ℕ) → i < n → get_or (numbers_of w n bs) i 0 ≡ from_low (take w (drop (w * i) bs))
number_at w zero bs i h = absurd (omega arith)
number_at w (suc n) bs zero h = ap (λ (k : ℕ). from_low (take w (drop k bs))) (sym (mul-zero w))
number_at w (suc n) bs (suc i) h =
    number_at w n (drop w bs) i (omega arith)
    ∙ ap (λ (l : List ℕ). from_low (take w l)) (drop-drop (w * i) w bs)
    ∙ ap (λ (k : ℕ). from_low (take w (drop k bs))) (add_comm w (w * i) ∙ sym (mul-suc w i))

-- the number at a place, by its lowest byte and the rest
pub low_byte : (w : ℕ) (bs : List ℕ) (i : ℕ) → i < length bs → from_low (take (suc w) (drop i bs)) ≡ get_or bs i 0 + 256 * from_low (take w (drop (i + 1) bs))
low_byte w bs i h = simp (add-one, drop-cons bs i 0 h)

-- ---- a buffer that is being filled

-- number i stored behind the numbers before it
pub stored : (w : ℕ) (out sent : List ℕ) (i x : ℕ) → w * (i + 1) ≤ length out → take (w * i) out ≡ bytes_of w sent
    → take (w * (i + 1)) (sets out (w * i) (low_first w x)) ≡ bytes_of w (sent ++ (x ∷ []))
stored w out sent i x h e =
    let vs : List ℕ = low_first w x in
    let n : length vs ≡ w = length-low_first w x in
    let step : w * (i + 1) ≡ w * i + w = ap (λ (k : ℕ). w * k) (add-one i) ∙ mul-suc w i in
    let fits : w * i + length vs ≤ length out = omega arith in
    let front : length (take (w * i) out ++ vs) ≡ w * (i + 1) = length-append (take (w * i) out) vs ∙ ap₂ (λ (a b : ℕ). a + b) (length-take-le (w * i) out (omega arith)) n ∙ sym step in
    ap (take (w * (i + 1))) (sets-eq vs out (w * i) fits)
    ∙ take_at (take (w * i) out ++ vs) (drop (w * i + length vs) out) (w * (i + 1)) front
    ∙ ap₂ (λ (a b : List ℕ). a ++ b) e (sym (append-nil vs))
    ∙ sym (bytes_append w sent (x ∷ []))

-- and at its end it holds nothing else
pub all_stored : (w : ℕ) (out sent : List ℕ) (i : ℕ) → length out ≤ w * i → take (w * i) out ≡ bytes_of w sent → out ≡ bytes_of w sent
all_stored w out sent i h e = sym (take_all (w * i) out h) ∙ e

-- ---- either way undoes the other

-- every number fits w bytes
abbrev pub Fit : ℕ → List ℕ → Type 0
Fit w [] = Unit {0}
Fit w (x ∷ xs) = (x < 256 ^ w) × Fit w xs

low_back : (w x : ℕ) → x < 256 ^ w → from_low (low_first w x) ≡ x
low_back zero x h = omega arith
low_back (suc w) x h =
    let q : x / 256 < 256 ^ w = omega (arith, pow-suc 256 w) in
    ap (λ (y : ℕ). x % 256 + 256 * y) (low_back w (x / 256) q) ∙ omega arith

pub written_read : (w : ℕ) (xs : List ℕ) → Fit w xs → numbers_of w (length xs) (bytes_of w xs) ≡ xs
written_read w [] f = refl
written_read w (x ∷ xs) f =
    let n : length (low_first w x) ≡ w = length-low_first w x in
    ap₂ (λ (a : List ℕ) (b : List ℕ). from_low a ∷ numbers_of w (length xs) b) (take_at (low_first w x) (bytes_of w xs) w n) (drop_at (low_first w x) (bytes_of w xs) w n)
    ∙ ap₂ (λ (a : ℕ) (b : List ℕ). a ∷ b) (low_back w x f.0) (written_read w xs f.1)

pub read_written : (xs : List ℕ) → Bytes xs → low_first (length xs) (from_low xs) ≡ xs
read_written [] h = refl
read_written (x ∷ xs) h =
    let byte : x < 256 = h.0 in
    let low : (x + 256 * from_low xs) % 256 ≡ x = omega arith in
    let rest : (x + 256 * from_low xs) / 256 ≡ from_low xs = omega arith in
    ap₂ (λ (y : ℕ) (l : List ℕ). y ∷ l) low (ap (low_first (length xs)) rest ∙ read_written xs h.1)
