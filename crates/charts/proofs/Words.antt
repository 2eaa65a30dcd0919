-- The words that their rule makes are right, by one test that is computed at all 2,304 places.
use mathlib.Core.Path.{◌≡◌, sym, ap, subst, ◌∙◌}
use mathlib.Core.Bool.{Bool, ◌&&◌}
use Prim.Native.Nat.{ℕ, ◌+◌, ◌-◌, ◌*◌, ◌/◌, ◌%◌, ◌<◌, ◌^◌}
use native.Mathlib.Omega.{arith}
use lib.Dec.{T, eqb, ltb, eqb→eq, ltb→lt}
use Rattle.laws.proofs.Truth.{and_left, and_right}
use Rattle.laws.proofs.Finite.{all, below}
use Rattle.laws.proofs.Integers.{eq_z, eq_z→eq}
use Rattle.dvi.specs.Symbol.{symbol_of, next_of}
use Rattle.charts.specs.Word.{unbiased, held, Field, Step, half, after, word_of}

-- the tests of a field and of a step
abbrev pub is_field : ℕ → Bool
is_field x = ltb 10 (held x) && ltb (held x) 20

pub field_of : (x : ℕ) → T (is_field x) → Field x
field_of x t = record {
  least = ltb→lt 10 (held x) (and_left (ltb 10 (held x)) (ltb (held x) 20) t);
  most = ltb→lt (held x) 20 (and_right (ltb 10 (held x)) (ltb (held x) 20) t);
}

abbrev is_step : ℕ → ℕ → ℕ → Bool
is_step k byte y = is_field (k + y / 1024) && (eq_z (unbiased (held (k + y / 1024))) (next_of (unbiased k) byte) && eqb (y % 1024) (symbol_of (unbiased k) byte))

-- from 11 on
abbrev right_at : ℕ → Bool
right_at byte = all (λ n. is_step (11 + n) byte (half (11 + n) (word_of byte))) 9

computed : T (all right_at 256)
unfolding symbol_of next_of
computed = tt

-- only what is held is looked at
same_half : (x w : ℕ) → half x w ≡ half (held x) w
same_half x w =
    let e : (x + w / 2 ^ 31) % 2 ^ 32 / 16 % 2 * 16 ≡ (held x + w / 2 ^ 31) % 2 ^ 32 / 16 % 2 * 16 = omega arith in
    ap (λ (t : ℕ). w / 2 ^ t) e

same_after : (x y : ℕ) → held (after x y) ≡ held (held x + y / 1024)
same_after x y = omega arith

module _ (x byte y : ℕ) where
  abbrev k : ℕ
  k = held x

  abbrev next : Bool
  next = eq_z (unbiased (held (k + y / 1024))) (next_of (unbiased k) byte)

  abbrev sent : Bool
  sent = eqb (y % 1024) (symbol_of (unbiased k) byte)

  step_of : T (is_step k byte y) → Step (unbiased k) byte (y % 1024) (after x y)
  step_of t =
      let u = and_right (is_field (k + y / 1024)) (next && sent) t in
      let f = field_of (k + y / 1024) (and_left (is_field (k + y / 1024)) (next && sent) t) in
      let s = same_after x y in
      record {
        field = record { least = subst (λ (n : ℕ). 10 < n) (sym s) f.least; most = subst (λ (n : ℕ). n < 20) (sym s) f.most };
        next = ap unbiased s ∙ eq_z→eq (unbiased (held (k + y / 1024))) (next_of (unbiased k) byte) (and_left next sent u);
        sent = eqb→eq (y % 1024) (symbol_of (unbiased k) byte) (and_right next sent u);
      }

-- so every step by the rule's word is right
pub step : (x byte : ℕ) → Field x → byte < 256 → Step (unbiased (held x)) byte (half x (word_of byte) % 1024) (after x (half x (word_of byte)))
step x byte f l =
    let n : ℕ = held x - 11 in
    let small : n < 9 = omega (arith, f.most) in
    let back : 11 + n ≡ held x = omega (arith, f.least) in
    let t = below (λ n. is_step (11 + n) byte (half (11 + n) (word_of byte))) 9 (below right_at 256 computed byte l) n small in
    let r : T (is_step (held x) byte (half (held x) (word_of byte))) = subst (λ (k : ℕ). T (is_step k byte (half k (word_of byte)))) back t in
    step_of x byte (half x (word_of byte)) (subst (λ (y : ℕ). T (is_step (held x) byte y)) (sym (same_half x (word_of byte))) r)
