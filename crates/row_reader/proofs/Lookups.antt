-- What the map and the scans tell of a row's symbols, and how a row is unpacked.
use mathlib.Core.Path.{◌≡◌, refl, sym, ap, ◌∙◌}
use mathlib.Core.Bool.{Bool, true, false, not, ◌&&◌}
use mathlib.Core.List.{List, [], ◌++◌, append_assoc, append-nil}
use Prim.Native.Nat.{ℕ, zero, suc, ◌+◌, ◌-◌, ◌*◌, ◌/◌, ◌%◌, ◌≤◌, ◌<◌}
use native.Mathlib.Decide.{dec_lt}
use native.Mathlib.Nat.{mod-eq_of_lt}
use native.Mathlib.Numerals.{add-one}
use native.Mathlib.Omega.{arith}
use borrow.Author.Tests.{le-ltb, lt-ltb, not-false}
use lib.Bits.{bit_or, bit_and, or_shr, or_mod, or_add_and, and_mod, and_le_l, and_le_r}
use lib.Dec.{ltb, eqb, eqb→eq}
use lib.ListN.{length, take, drop, get_or, set, drop_of_length-le}
use lib.Seq.{drop-cons, take-suc-set, take_all}
use Rattle.laws.specs.Search.{first}
use Rattle.laws.proofs.Truth.{true_T, and_left, and_right}
use Rattle.laws.proofs.Searching.{before, stop, go_on, end}
use Rattle.dvi.specs.Decoder.{byte_of, is_data}
use Rattle.dvi.specs.Plain.{flag}
use Rattle.dvi.specs.Row.{row_bytes}
use Rattle.dvi.proofs.Decoding.{is_small}
use Rattle.row_reader.specs.Along.{DataTo, Unpacked}
use Rattle.row_reader.specs.Answer.{first_bad}

flag_true : (t : Bool) → flag t ≡ 1 → t ≡ true
flag_true true e = refl
flag_true false e = absurd (omega arith)

flag_test : (t : Bool) → eqb (flag t) 1 ≡ t
flag_test true = refl
flag_test false = refl

module _ (s : ℕ) where
  -- more than ten bits are no data symbol
  too_long : 1024 ≤ s → is_data s ≡ false
  unfolding is_data
  too_long h = simp (le-ltb s 1024 h)

  pub data_short : is_data s ≡ true → s < 1024
  data_short e = is_small s (true_T e)

  pub data_low : is_data s ≡ true → s % 1024 ≡ s
  data_low e = mod-eq_of_lt (data_short e)

  by : Dec (s < 1024) → (ltb s 1024 && eqb (flag (is_data (s % 1024))) 1) ≡ is_data s
  by (yes l) = rw (lt-ltb s 1024 l, mod-eq_of_lt l) (flag_test (is_data s))
  by (no l) = let h : 1024 ≤ s = omega (arith, l) in rw (le-ltb s 1024 h) (sym (too_long h))

  pub tested : (b : ℕ) → b ≡ flag (is_data (s % 1024)) → (ltb s 1024 && eqb b 1) ≡ is_data s
  tested b e = rw e (by (dec_lt s 1024))

-- ---- pairs told by their bits: nothing above ten of either, and the map's bit of both

or_none : (x y : ℕ) → bit_or x y ≡ 0 → (x ≡ 0) × (y ≡ 0)
or_none x y e =
    let a = or_add_and x y in
    let l = and_le_l x y in
    let r = and_le_r x y in
    (omega (arith, e, a, l, r), omega (arith, e, a, l, r))

and_odd : (x y : ℕ) → bit_and x y % 2 ≡ 1 → (x % 2 ≡ 1) × (y % 2 ≡ 1)
and_odd x y e =
    let m : bit_and x y % 2 ≡ bit_and (x % 2) (y % 2) = and_mod x y 1 in
    let l = and_le_l (x % 2) (y % 2) in
    let r = and_le_r (x % 2) (y % 2) in
    (omega (arith, e, m, l, r), omega (arith, e, m, l, r))

abbrev pub Told : List ℕ → ℕ → ℕ → ℕ → Type 0
Told ss above all n = above / 1024 % 64 ≡ 0 → above / 67108864 ≡ 0 → all % 2 ≡ 1 → DataTo ss n

pub told_none : (ss : List ℕ) (above all : ℕ) → Told ss above all 0
told_none ss above all a b c j l = absurd (omega arith)

module _ (ss : List ℕ) (k above all w a b : ℕ) (e : w % 65536 ≡ get_or ss (2 * k) 0) (f : w / 65536 ≡ get_or ss (2 * k + 1) 0)
    (p : a % 2 ≡ flag (is_data (w % 1024))) (q : b % 2 ≡ flag (is_data (w / 65536 % 1024))) where
  first_data : w / 1024 % 64 ≡ 0 → a % 2 ≡ 1 → is_data (get_or ss (2 * k) 0) ≡ true
  first_data h o =
      let same : w % 1024 ≡ get_or ss (2 * k) 0 = omega (arith, e, h) in
      ap is_data (sym same) ∙ flag_true _ (sym p ∙ o)

  second_data : w / 67108864 ≡ 0 → b % 2 ≡ 1 → is_data (get_or ss (2 * k + 1) 0) ≡ true
  second_data h o =
      let same : w / 65536 % 1024 ≡ get_or ss (2 * k + 1) 0 = omega (arith, f, h) in
      ap is_data (sym same) ∙ flag_true _ (sym q ∙ o)

  one_of_lem : (j : ℕ) → j < 2 * (k + 1) → DataTo ss (2 * k) → is_data (get_or ss (2 * k) 0) ≡ true → is_data (get_or ss (2 * k + 1) 0) ≡ true
      → Dec (j < 2 * k) → Dec (j < 2 * k + 1) → is_data (get_or ss j 0) ≡ true
  one_of_lem j l t x y (yes u) v = t j u
  one_of_lem j l t x y (no u) (yes v) = let same : j ≡ 2 * k = omega (arith, u, v) in ap (λ (i : ℕ). is_data (get_or ss i 0)) same ∙ x
  one_of_lem j l t x y (no u) (no v) = let same : j ≡ 2 * k + 1 = omega (arith, l, u, v) in ap (λ (i : ℕ). is_data (get_or ss i 0)) same ∙ y

  pub told_more : Told ss above all (2 * k) → Told ss (bit_or above w) (bit_and all (bit_and a b)) (2 * (k + 1))
  told_more t h i o j l =
      let h' : bit_or (above / 1024 % 64) (w / 1024 % 64) ≡ 0 = sym (or_mod (above / 1024) (w / 1024) 6) ∙ ap (λ (x : ℕ). x % 64) (sym (or_shr above w 10)) ∙ h in
      let i' : bit_or (above / 67108864) (w / 67108864) ≡ 0 = sym (or_shr above w 26) ∙ i in
      let hh = or_none (above / 1024 % 64) (w / 1024 % 64) h' in
      let ii = or_none (above / 67108864) (w / 67108864) i' in
      let pp = and_odd all (bit_and a b) o in
      let oo = and_odd a b pp.1 in
      one_of_lem j l (t hh.0 ii.0 pp.0) (first_data hh.1 oo.0) (second_data ii.1 oo.1) (dec_lt j (2 * k)) (dec_lt j (2 * k + 1))

-- told at the end, by one test
pub all_told : (ss : List ℕ) (above all n : ℕ) → (eqb (above / 1024 % 64) 0 && eqb (above / 67108864) 0 && eqb (all % 2) 1) ≡ true → Told ss above all n → DataTo ss n
all_told ss above all n e t =
    let p = true_T e in
    let q = and_left (eqb (above / 1024 % 64) 0 && eqb (above / 67108864) 0) (eqb (all % 2) 1) p in
    t (eqb→eq _ _ (and_left (eqb (above / 1024 % 64) 0) (eqb (above / 67108864) 0) q)) (eqb→eq _ _ (and_right (eqb (above / 1024 % 64) 0) (eqb (above / 67108864) 0) q))
    (eqb→eq _ _ (and_right (eqb (above / 1024 % 64) 0 && eqb (above / 67108864) 0) (eqb (all % 2) 1) p))

-- ---- scans

-- what is known to be data is passed over
pub passed : (ss : List ℕ) (i n : ℕ) → i ≤ n → DataTo ss i → first (λ i. not (is_data (get_or ss i 0))) 0 n ≡ first (λ i. not (is_data (get_or ss i 0))) i (n - i)
passed ss zero n h t = let e : n ≡ n - 0 = omega arith in ap (first (λ i. not (is_data (get_or ss i 0))) 0) e
passed ss (suc i) n h t =
    let r = passed ss i n (omega arith) (λ j l. t j (omega arith)) in
    let l : i < n = omega arith in
    let g : not (is_data (get_or ss i 0)) ≡ false = simp (t i (omega arith)) in
    rw add-one at (r ∙ go_on (λ i. not (is_data (get_or ss i 0))) i n l g)

-- one more
more_by : (ss : List ℕ) (n j : ℕ) → DataTo ss n → is_data (get_or ss n 0) ≡ true → j < n + 1 → Dec (j < n) → is_data (get_or ss j 0) ≡ true
more_by ss n j t e l (yes u) = t j u
more_by ss n j t e l (no u) = let same : j ≡ n = omega (arith, l, u) in ap (λ (i : ℕ). is_data (get_or ss i 0)) same ∙ e

pub data_more : (ss : List ℕ) (n : ℕ) → DataTo ss n → is_data (get_or ss n 0) ≡ true → DataTo ss (n + 1)
data_more ss n t e j l = more_by ss n j t e l (dec_lt j n)

-- so a row's verdict is the first that is none, or none at all
pub refused_at : (ss : List ℕ) (i : ℕ) → i < length ss → DataTo ss i → is_data (get_or ss i 0) ≡ false → first_bad ss ≡ i
refused_at ss i h t e = passed ss i (length ss) (omega arith) t ∙ stop (λ i. not (is_data (get_or ss i 0))) i (length ss) h (simp e)

pub all_data : (ss : List ℕ) → DataTo ss (length ss) → first_bad ss ≡ length ss
all_data ss t = passed ss (length ss) (length ss) (omega arith) t ∙ end (λ i. not (is_data (get_or ss i 0))) (length ss) (length ss) (omega arith)

-- a row that was scanned to its end is all data symbols
pub scanned : (ss : List ℕ) → first_bad ss ≡ length ss → DataTo ss (length ss)
scanned ss e i h =
    let l : i < first_bad ss = rw e h in
    not-false (is_data (get_or ss i 0)) (before (λ i. not (is_data (get_or ss i 0))) 0 (length ss) i (omega arith) l)

-- ---- unpacking

-- the first symbol of a pair, by its low ten bits
pub first_low : (w s : ℕ) → w % 65536 ≡ s → is_data s ≡ true → w % 1024 ≡ s
first_low w s e d = let l = data_short s d in omega (arith, e, l)

pub unpacked_none : (ss out : List ℕ) → Unpacked ss out 0
unpacked_none ss out = record { row = refl }

pub unpacked_more : (ss out : List ℕ) (i v : ℕ) → i < length ss → i < length out → v ≡ byte_of (get_or ss i 0)
    → Unpacked ss out i → Unpacked ss (set out i v) (i + 1)
unpacked_more ss out i v h k e u =
    let turn : take (i + 1) (set out i v) ++ row_bytes (drop (i + 1) ss) ≡ take i out ++ row_bytes (drop i ss) =
    simp (e, add-one, take-suc-set, drop-cons ss i 0 h, append_assoc) in
    record { row = turn ∙ u.row }

pub unpacked_all : (ss out : List ℕ) (i : ℕ) → length ss ≤ i → length out ≡ length ss → Unpacked ss out i → out ≡ row_bytes ss
unpacked_all ss out i l e u =
    let p : drop i ss ≡ [] = drop_of_length-le ss l in
    let q : take i out ≡ out = take_all i out (omega arith) in
    simp (p, q, append-nil) at u.row
