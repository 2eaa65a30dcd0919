-- The numbers of a word's lanes in one number: there and back.
use mathlib.Core.Path.{◌≡◌, refl, ap, ◌∙◌}
use mathlib.Core.Bool.{Bool, true, false, ◌||◌}
use mathlib.Core.List.{List}
use Prim.Native.Nat.{ℕ, ◌+◌, ◌-◌, ◌≤◌, ◌<◌}
use native.Mathlib.Omega.{arith}
use borrow.Author.Tests.{eqb-false, eq-eqb, ne_eqb, ltb-true, ltb-false}
use lib.Dec.{eqb, ltb}
use lib.ListN.{length, get_or}
use Rattle.std.specs.Prelude.{Some, None}
use Rattle.std.specs.Bool.{then_some}
use Rattle.laws.specs.Front.{Front}
use Rattle.laws.proofs.Tables.{made_at}
use Rattle.dvi.specs.Lanes.{lane}
use Rattle.hdmi.proofs.Terc4.{number_le}
use Rattle.island_reader.specs.Found.{number_on, unread}
use Rattle.island_reader.specs.Numbers.{numbers_of, numbers_in}
use Rattle.island_reader.specs.Read.{lane_wrong}

neither : (a b c : Bool) → (a || (b || c)) ≡ false → (a ≡ false) × (b ≡ false) × (c ≡ false)
neither false false false e = (refl, refl, refl)
neither false false true e = let z : ◌≡◌ {A = ℕ} 0 1 = cc in absurd (omega arith)
neither false true c e = let z : ◌≡◌ {A = ℕ} 0 1 = cc in absurd (omega arith)
neither true b c e = let z : ◌≡◌ {A = ℕ} 0 1 = cc in absurd (omega arith)

pub on_lane_le : (t w : ℕ) → number_on t w ≤ 16
on_lane_le t w = number_le (lane t w)

-- ---- the number on one lane, read or not

none_by : (b : Bool) (n : ℕ) → then_some b n ≡ None → b ≡ false
none_by true n e = let z : ◌≡◌ {A = ℕ} 0 1 = cc in absurd (omega arith)
none_by false n e = refl

some_by : (b : Bool) (n m : ℕ) → then_some b n ≡ Some m → (b ≡ true) × (n ≡ m)
some_by true n m e = (refl, cc)
some_by false n m e = let z : ◌≡◌ {A = ℕ} 0 1 = cc in absurd (omega arith)

pub lane_none : (t w : ℕ) → then_some (ltb (number_on t w) 16) (number_on t w) ≡ None → number_on t w ≡ 16
lane_none t w e =
    omega (arith, ltb-false (number_on t w) 16 (none_by (ltb (number_on t w) 16) (number_on t w) e), on_lane_le t w)

pub lane_some : (t w n : ℕ) → then_some (ltb (number_on t w) 16) (number_on t w) ≡ Some n → (number_on t w < 16) × (number_on t w ≡ n)
lane_some t w n e =
    let h = some_by (ltb (number_on t w) 16) (number_on t w) n e in
    (ltb-true (number_on t w) 16 h.0, h.1)

-- ---- which lane isn't TERC4

pub unread_0 : (w : ℕ) → number_on 0 w ≡ 16 → unread w ≡ true
unread_0 w e = simp (eq-eqb (number_on 0 w) 16 e)

or_true : (a : Bool) → (a || true) ≡ true
or_true true = refl
or_true false = refl

pub unread_1 : (w : ℕ) → number_on 1 w ≡ 16 → unread w ≡ true
unread_1 w e = simp (eq-eqb (number_on 1 w) 16 e, or_true)

pub unread_2 : (w : ℕ) → number_on 2 w ≡ 16 → unread w ≡ true
unread_2 w e = simp (eq-eqb (number_on 2 w) 16 e, or_true)

pub read_all : (w : ℕ) → (number_on 0 w ≡ 16 → ⊥) → (number_on 1 w ≡ 16 → ⊥) → (number_on 2 w ≡ 16 → ⊥) → unread w ≡ false
read_all w a b c = simp (ne_eqb (number_on 0 w) 16 a, ne_eqb (number_on 1 w) 16 b, ne_eqb (number_on 2 w) 16 c)

pub numbers_lt : (w : ℕ) → unread w ≡ false → (number_on 0 w < 16) × (number_on 1 w < 16) × (number_on 2 w < 16)
numbers_lt w e =
    let t = neither (eqb (number_on 0 w) 16) (eqb (number_on 1 w) 16) (eqb (number_on 2 w) 16) e in (
      omega (arith, on_lane_le 0 w, eqb-false (number_on 0 w) 16 t.0),
      omega (arith, on_lane_le 1 w, eqb-false (number_on 1 w) 16 t.1),
      omega (arith, on_lane_le 2 w, eqb-false (number_on 2 w) 16 t.2),
    )

-- ---- the numbers of an island's words

pub length_numbers : (ws : List ℕ) → length (numbers_in ws) ≡ 32
unfolding numbers_in
length_numbers ws = refl

pub numbers_at : (ws : List ℕ) (k : ℕ) → k < 32 → get_or (numbers_in ws) k 0 ≡ numbers_of (get_or ws (2 + k) 0)
unfolding numbers_in
numbers_at ws = made_at (λ k. numbers_of (get_or ws (2 + k) 0)) 32

-- the words before 2 + k are read, and their numbers found
pub record ReadBelow (ws : List ℕ) (k : ℕ) (found : List ℕ) : Type 0 where
  pub clean : (j : ℕ) → j < k → unread (get_or ws (2 + j) 0) ≡ false
  pub front : Front (numbers_in ws) k found

-- what holds of the words before 2 + k, by their number
pub from_two : (f : ℕ → Bool) (k : ℕ) → ((j : ℕ) → j < k → f (2 + j) ≡ false) → (j : ℕ) → 2 ≤ j → j < 2 + k → f j ≡ false
from_two f k h j a b =
    let e : j ≡ 2 + (j - 2) = omega arith in
    ap f e ∙ h (j - 2) (omega arith)

pub clean_words : (ws : List ℕ) (k : ℕ) → ((j : ℕ) → j < k → unread (get_or ws (2 + j) 0) ≡ false) → (j : ℕ) → 2 ≤ j → j < 2 + k → lane_wrong ws j ≡ false
clean_words ws = from_two (lane_wrong ws)
