-- Four words side by side: the statement fixes the word, and the step undoes itself.
use mathlib.Core.Path.{◌≡◌, sym, ap, ◌∙◌}
use mathlib.Core.List.{List, [], ◌∷◌}
use Prim.Native.Nat.{ℕ, zero, suc, ◌+◌, ◌*◌, ◌/◌, ◌%◌, ◌^◌, ◌<◌}
use native.Mathlib.Omega.{arith}
use lib.ListN.{get_or}
use Rattle.laws.specs.Bit.{bit}
use Rattle.laws.proofs.Bits.{bit_ext}

-- what `side_by_side` says of its answer r for the words ws
abbrev pub Beside : ℕ → List ℕ → ℕ → Type 0
Beside j ws r = (i s o : ℕ) → i < 8 → s < 4 → o < 2 → bit (8 * i + (2 * s + o)) r ≡ bit (8 * i + (2 * (j % 4) + o)) (get_or ws s 0)

pub beside_once : (j : ℕ) (ws : List ℕ) (r q : ℕ) → r < 2 ^ 64 → q < 2 ^ 64 → Beside j ws r → Beside j ws q → r ≡ q
beside_once j ws r q hr hq a b = bit_ext 64 r q hr hq at
  where
    at : (k : ℕ) → k < 64 → bit k r ≡ bit k q
    at k h =
        let i : ℕ = k / 8 in
        let s : ℕ = k % 8 / 2 in
        let o : ℕ = k % 2 in
        let e : k ≡ 8 * i + (2 * s + o) = omega arith in
        ap (λ (m : ℕ). bit m r) e ∙ a i s o (omega arith) (omega arith) (omega arith) ∙ sym (b i s o (omega arith) (omega arith) (omega arith))
        ∙ ap (λ (m : ℕ). bit m q) (sym e)

pub beside_twice : (ws ys : List ℕ) (s z : ℕ) → s < 4 → get_or ws s 0 < 2 ^ 64 → z < 2 ^ 64 → ((j : ℕ) → j < 4 → Beside j ws (get_or ys j 0))
    → Beside s ys z → z ≡ get_or ws s 0
beside_twice ws ys s z hs hw hz first second = bit_ext 64 z (get_or ws s 0) hz hw at
  where
    at : (k : ℕ) → k < 64 → bit k z ≡ bit k (get_or ws s 0)
    at k h =
        let i : ℕ = k / 8 in
        let j : ℕ = k % 8 / 2 in
        let o : ℕ = k % 2 in
        let e : k ≡ 8 * i + (2 * j + o) = omega arith in
        let d : 8 * i + (2 * (s % 4) + o) ≡ 8 * i + (2 * s + o) = omega arith in
        let f : 8 * i + (2 * (j % 4) + o) ≡ k = omega arith in
        ap (λ (m : ℕ). bit m z) e ∙ second i j o (omega arith) (omega arith) (omega arith) ∙ ap (λ (m : ℕ). bit m (get_or ys j 0)) d
        ∙ first j (omega arith) i s o (omega arith) hs (omega arith) ∙ ap (λ (m : ℕ). bit m (get_or ws s 0)) f

-- for each j
pub all_beside : (ws : List ℕ) (a b c d : ℕ) → Beside 0 ws a → Beside 1 ws b → Beside 2 ws c → Beside 3 ws d
    → (j i s o : ℕ) → j < 4 → i < 8 → s < 4 → o < 2 → bit (8 * i + (2 * s + o)) (get_or (a ∷ b ∷ c ∷ d ∷ []) j 0) ≡ bit (8 * i + (2 * (j % 4) + o)) (get_or ws s 0)
all_beside ws a b c d ha hb hc hd zero i s o hj = ha i s o
all_beside ws a b c d ha hb hc hd (suc zero) i s o hj = hb i s o
all_beside ws a b c d ha hb hc hd (suc (suc zero)) i s o hj = hc i s o
all_beside ws a b c d ha hb hc hd (suc (suc (suc zero))) i s o hj = hd i s o
all_beside ws a b c d ha hb hc hd (suc (suc (suc (suc j)))) i s o hj = absurd (omega arith)
