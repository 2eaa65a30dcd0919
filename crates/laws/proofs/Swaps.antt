-- Delta swaps: the bits of a mask change places with those a shift above them, and every other bit stays. One law, over the mask, the shift and the
-- word's width, for one swap; and for any number of them one after the other, where one computed test says that the masks are in order.
use mathlib.Core.Path.{◌≡◌, refl, sym, ap, ap₂, ◌∙◌}
use mathlib.Core.Bool.{Bool, true, ◌&&◌}
use mathlib.Core.List.{List, [], ◌∷◌}
use Prim.Native.Nat.{ℕ, zero, suc, ◌+◌, ◌-◌, ◌*◌, ◌/◌, ◌%◌, ◌^◌, ◌≤◌, ◌<◌, min}
use native.Mathlib.Decide.{dec_le}
use native.Mathlib.Nat.{min-zero, add_comm}
use native.Mathlib.Omega.{arith}
use lib.Bits.{bit_and, bit_xor, differ}
use lib.Dec.{T, eqb, eqb→eq, ltb, ltb→lt}
use Rattle.laws.specs.Bit.{bit}
use Rattle.laws.proofs.Truth.{and_left, and_right}
use Rattle.laws.proofs.Xor.{on_bit}
use Rattle.laws.proofs.Bits.{bit_lt, bit-xor, bit-and, bit_shr, bit_mod, bit-shl, bit_shl_low}

-- a mask and a shift
pub record Swap : Type 0 where
  pub mask : ℕ
  pub shift : ℕ

abbrev pub swap : ℕ → ℕ → Swap
swap m s = record { mask = m; shift = s }

-- what differs between the bits of the mask and those above them
abbrev pub difference : ℕ → ℕ → ℕ → ℕ
difference m s v = bit_and (bit_xor v (v / 2 ^ s)) m

-- the word v of w bits, swapped
abbrev pub swapped : ℕ → ℕ → ℕ → ℕ → ℕ
swapped w m s v = bit_xor (bit_xor v (difference m s v)) (difference m s v * 2 ^ s % 2 ^ w)

-- by a bit x of the mask and a bit y of the mask shifted: what stays, what comes from above, what comes from below
abbrev pick : ℕ → ℕ → ℕ → ℕ → ℕ → ℕ
pick zero zero stays above below = stays
pick zero (suc y) stays above below = below
pick (suc x) y stays above below = above

-- where bit k comes from
abbrev pub source : ℕ → ℕ → ℕ → ℕ
source m s k = pick (bit k m) (bit k (m * 2 ^ s)) k (k + s) (k - s)

pick_bit : (x y a b c v : ℕ) → pick x y (bit a v) (bit b v) (bit c v) ≡ bit (pick x y a b c) v
pick_bit zero zero a b c v = refl
pick_bit zero (suc y) a b c v = refl
pick_bit (suc x) y a b c v = refl

differ_zero : (a : ℕ) → differ a 0 ≡ a
differ_zero zero = refl
differ_zero (suc a) = refl

-- a bit, with what differs from another put on, is that other
turned : (a b : ℕ) → a < 2 → b < 2 → (differ a (min (differ a b) 1) ≡ b) × (differ a (min (differ b a) 1) ≡ b)
turned a b ha hb =
    on_bit (λ (a : ℕ). (differ a (min (differ a b) 1) ≡ b) × (differ a (min (differ b a) 1) ≡ b))
    (on_bit (λ (b : ℕ). (differ 0 (min (differ 0 b) 1) ≡ b) × (differ 0 (min (differ b 0) 1) ≡ b)) (refl, refl) (refl, refl) b hb)
    (on_bit (λ (b : ℕ). (differ 1 (min (differ 1 b) 1) ≡ b) × (differ 1 (min (differ b 1) 1) ≡ b)) (refl, refl) (refl, refl) b hb)
    a ha

-- what the two exclusive ors make of a bit a, with b above it and c below it
digit : (a b c x y : ℕ) → a < 2 → b < 2 → c < 2 → x < 2 → y < 2 → min x y ≡ 0
    → differ (differ a (min (differ a b) x)) (min (differ c a) y) ≡ pick x y a b c
digit a b c zero zero ha hb hc hx hy e = rw (min-zero, min-zero, differ_zero, differ_zero)
digit a b c zero (suc zero) ha hb hc hx hy e = rw (min-zero, differ_zero) (turned a c ha hc).1
digit a b c (suc zero) zero ha hb hc hx hy e = rw (min-zero, differ_zero) (turned a b ha hb).0
digit a b c (suc zero) (suc zero) ha hb hc hx hy e = absurd (omega arith)
digit a b c zero (suc (suc y)) ha hb hc hx hy e = absurd (omega arith)
digit a b c (suc (suc x)) y ha hb hc hx hy e = absurd (omega arith)
digit a b c (suc zero) (suc (suc y)) ha hb hc hx hy e = absurd (omega arith)

-- the difference, shifted up: at bit k it is that of the bits k - s and k, under the shifted mask
raised : (m s v k : ℕ) → Dec (s ≤ k) → bit k (difference m s v * 2 ^ s) ≡ min (differ (bit (k - s) v) (bit k v)) (bit k (m * 2 ^ s))
raised m s v k (no n) =
    let h : k < s = omega (arith, n) in
    rw (bit_shl_low, bit_shl_low, min-zero)
raised m s v k (yes h) =
    let i : ℕ = k - s in
    let e : k ≡ s + i = omega arith in
    ap (λ (j : ℕ). bit j (difference m s v * 2 ^ s)) e ∙ bit-shl i s (difference m s v) ∙ bit-and i (bit_xor v (v / 2 ^ s)) m
    ∙ ap₂ min (bit-xor i v (v / 2 ^ s) ∙ ap (differ (bit i v)) (bit_shr i s v ∙ ap (λ (j : ℕ). bit j v) (sym e)))
    (sym (bit-shl i s m) ∙ ap (λ (j : ℕ). bit j (m * 2 ^ s)) (sym e))

-- where the mask and the shifted mask don't meet, each bit of the swapped word is one of the word's
pub swapped_bit : (w m s v k : ℕ) → k < w → min (bit k m) (bit k (m * 2 ^ s)) ≡ 0 → bit k (swapped w m s v) ≡ bit (source m s k) v
swapped_bit w m s v k h e =
    let t : ℕ = difference m s v in
    bit-xor k (bit_xor v t) (t * 2 ^ s % 2 ^ w)
    ∙ ap₂ differ
    (bit-xor k v t
    ∙ ap (differ (bit k v))
    (bit-and k (bit_xor v (v / 2 ^ s)) m
    ∙ ap (λ (x : ℕ). min x (bit k m)) (bit-xor k v (v / 2 ^ s) ∙ ap (differ (bit k v)) (bit_shr k s v ∙ ap (λ (j : ℕ). bit j v) (add_comm s k)))))
    (bit_mod k w (t * 2 ^ s) h ∙ raised m s v k (dec_le s k))
    ∙ digit (bit k v) (bit (k + s) v) (bit (k - s) v) (bit k m) (bit k (m * 2 ^ s))
    (bit_lt k v) (bit_lt (k + s) v) (bit_lt (k - s) v) (bit_lt k m) (bit_lt k (m * 2 ^ s)) e
    ∙ pick_bit (bit k m) (bit k (m * 2 ^ s)) k (k + s) (k - s) v

-- ---- swaps one after the other

abbrev pub swaps : ℕ → List Swap → ℕ → ℕ
swaps w [] v = v
swaps w (x ∷ xs) v = swaps w xs (swapped w x.mask x.shift v)

abbrev pub sources : List Swap → ℕ → ℕ
sources [] k = k
sources (x ∷ xs) k = source x.mask x.shift (sources xs k)

-- on the way of bit k every place is inside the word, and no mask meets itself shifted
abbrev pub orderly : ℕ → List Swap → ℕ → Bool
orderly w [] k = true
orderly w (x ∷ xs) k =
    (ltb (sources xs k) w && eqb (min (bit (sources xs k) x.mask) (bit (sources xs k) (x.mask * 2 ^ x.shift))) 0) && orderly w xs k

pub swaps_bit : (w : ℕ) (xs : List Swap) (v k : ℕ) → k < w → T (orderly w xs k) → bit k (swaps w xs v) ≡ bit (sources xs k) v
swaps_bit w [] v k h t = refl
swaps_bit w (x ∷ xs) v k h t =
    let m : ℕ = x.mask in
    let s : ℕ = x.shift in
    let j : ℕ = sources xs k in
    let here = and_left (ltb j w && eqb (min (bit j m) (bit j (m * 2 ^ s))) 0) (orderly w xs k) t in
    let rest = and_right (ltb j w && eqb (min (bit j m) (bit j (m * 2 ^ s))) 0) (orderly w xs k) t in
    let inside = and_left (ltb j w) (eqb (min (bit j m) (bit j (m * 2 ^ s))) 0) here in
    let apart = and_right (ltb j w) (eqb (min (bit j m) (bit j (m * 2 ^ s))) 0) here in
    swaps_bit w xs (swapped w m s v) k h rest
    ∙ swapped_bit w m s v j (ltb→lt j w inside) (eqb→eq (min (bit j m) (bit j (m * 2 ^ s))) 0 apart)
