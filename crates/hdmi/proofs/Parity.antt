-- The parity byte is linear, at any number of data bytes: that of an XOR is the XOR of the two. So eight steps of the register can be taken at once.
use mathlib.Core.Path.{◌≡◌, refl, sym, ap, ap₂, ◌∙◌}
use mathlib.Core.List.{List, [], ◌∷◌, ◌++◌}
use Prim.Native.Nat.{ℕ, zero, suc, ◌+◌, ◌*◌, ◌/◌, ◌%◌, ◌^◌, ◌<◌}
use native.Mathlib.Nat.{pow-suc}
use native.Mathlib.Numerals.{add-one}
use native.Mathlib.Omega.{arith}
use lib.Arith.{lt-one}
use lib.Bits.{bit_xor, xor_comm, xor_zero_r, xor_self, xor_lt, xor_shr, xor_mod}
use lib.Dec.{T, eqb→eq}
use lib.ListN.{length, replicate, get_or, drop, take, length-append}
use lib.Seq.{drop-cons, take_at, get_or-append_seam}
use borrow.Author.Tests.{eq-eqb}
use Rattle.laws.specs.Bytes.{low_first}
use Rattle.laws.proofs.Bytes.{length-low_first}
use Rattle.laws.proofs.Truth.{true_T}
use Rattle.laws.proofs.Finite.{bounded}
use Rattle.laws.proofs.Linear.{Linear}
use Rattle.laws.proofs.Xor.{on_bit, odd_lt, xor_half, xor_odd, xor_swap}
use Rattle.hdmi.specs.Parity.{step, register, bits_of, sent, parity, with_parity, right}

-- ---- the register

generator_xor : (g h : ℕ) → g < 2 → h < 2 → bit_xor g h * 0x83 ≡ bit_xor (g * 0x83) (h * 0x83)
generator_xor g h hg hh =
    on_bit (λ (x : ℕ). bit_xor x h * 0x83 ≡ bit_xor (x * 0x83) (h * 0x83)) refl
    (on_bit (λ (y : ℕ). bit_xor 1 y * 0x83 ≡ bit_xor 0x83 (y * 0x83)) refl refl h hh)
    g hg

-- a step is linear in the register and the bit together
pub step_xor : (v w b c : ℕ) → b < 2 → c < 2 → step (bit_xor v w) (bit_xor b c) ≡ bit_xor (step v b) (step w c)
step_xor v w b c hb hc =
    let out : bit_xor (bit_xor v w % 2) (bit_xor b c) ≡ bit_xor (bit_xor (v % 2) b) (bit_xor (w % 2) c) =
    ap (λ (x : ℕ). bit_xor x (bit_xor b c)) (xor_odd v w) ∙ xor_swap (v % 2) (w % 2) b c in
    ap₂ (λ (x y : ℕ). bit_xor x (y * 0x83)) (xor_half v w) out
    ∙ ap (bit_xor (bit_xor (v / 2) (w / 2)))
    (generator_xor (bit_xor (v % 2) b) (bit_xor (w % 2) c) (xor_lt 1 _ _ (odd_lt v) hb) (xor_lt 1 _ _ (odd_lt w) hc))
    ∙ xor_swap (v / 2) (w / 2) (bit_xor (v % 2) b * 0x83) (bit_xor (w % 2) c * 0x83)

pub steps_xor : (n v w x y : ℕ) → register (bit_xor v w) (bits_of n (bit_xor x y)) ≡ bit_xor (register v (bits_of n x)) (register w (bits_of n y))
steps_xor zero v w x y = refl
steps_xor (suc n) v w x y =
    ap₂ (λ (r m : ℕ). register r (bits_of n m))
    (ap (step (bit_xor v w)) (xor_odd x y) ∙ step_xor v w (x % 2) (y % 2) (odd_lt x) (odd_lt y))
    (xor_half x y)
    ∙ steps_xor n (step v (x % 2)) (step w (y % 2)) (x / 2) (y / 2)

pub register_append : (v : ℕ) (bs cs : List ℕ) → register v (bs ++ cs) ≡ register (register v bs) cs
register_append v [] cs = refl
register_append v (b ∷ bs) cs = register_append (step v b) bs cs

-- ---- the parity of an XOR

-- two blocks XORed byte by byte, as far as the shorter goes
abbrev pub xors : List ℕ → List ℕ → List ℕ
xors [] ys = []
xors (x ∷ xs) [] = []
xors (x ∷ xs) (y ∷ ys) = bit_xor x y ∷ xors xs ys

register_xors : (v w : ℕ) (xs ys : List ℕ) → length xs ≡ length ys
    → register (bit_xor v w) (sent (xors xs ys)) ≡ bit_xor (register v (sent xs)) (register w (sent ys))
unfolding sent
register_xors v w [] [] e = refl
register_xors v w [] (y ∷ ys) e = absurd (omega arith)
register_xors v w (x ∷ xs) [] e = absurd (omega arith)
register_xors v w (x ∷ xs) (y ∷ ys) e =
    register_append (bit_xor v w) (bits_of 8 (bit_xor x y)) (sent (xors xs ys))
    ∙ ap (λ (r : ℕ). register r (sent (xors xs ys))) (steps_xor 8 v w x y)
    ∙ register_xors (register v (bits_of 8 x)) (register w (bits_of 8 y)) xs ys (omega arith)
    ∙ ap₂ bit_xor (sym (register_append v (bits_of 8 x) (sent xs))) (sym (register_append w (bits_of 8 y) (sent ys)))

-- for two blocks of equal length the parity of their XOR is the XOR of their parities
pub parity_xor : (xs ys : List ℕ) → length xs ≡ length ys → parity (xors xs ys) ≡ bit_xor (parity xs) (parity ys)
unfolding parity
parity_xor xs ys e = register_xors 0 0 xs ys e

-- the zero block has parity zero
pub parity_zeros : (n : ℕ) → parity (replicate n 0) ≡ 0
unfolding parity sent
parity_zeros zero = refl
parity_zeros (suc n) = parity_zeros n

-- so it is of a number's bytes
bytes_xor : (n a b : ℕ) → low_first n (bit_xor a b) ≡ xors (low_first n a) (low_first n b)
bytes_xor zero a b = refl
bytes_xor (suc n) a b =
    ap₂ (λ (x : ℕ) (l : List ℕ). x ∷ l) (xor_mod a b 8) (ap (low_first n) (xor_shr a b 8) ∙ bytes_xor n (a / 256) (b / 256))

pub parity_linear : (n : ℕ) → Linear (λ w. parity (low_first n w))
parity_linear n a b =
    ap parity (bytes_xor n a b) ∙ parity_xor (low_first n a) (low_first n b) (length-low_first n a ∙ sym (length-low_first n b))

-- zero bytes in front of a block change nothing
pub parity_zeros_first : (n : ℕ) (xs : List ℕ) → parity (replicate n 0 ++ xs) ≡ parity xs
unfolding parity sent
parity_zeros_first zero xs = refl
parity_zeros_first (suc n) xs = parity_zeros_first n xs

-- ---- eight steps at once

-- the register, from 0, after the bits of one byte
unfoldable pub eight : ℕ → ℕ
eight x = register 0 (bits_of 8 x)

-- to take in a number of n bits is to XOR it to the register, and to take in n zeros
absorb : (n v x : ℕ) → x < 2 ^ n → register v (bits_of n x) ≡ register (bit_xor v x) (bits_of n 0)
absorb zero v x h = sym (ap (bit_xor v) (lt-one h) ∙ xor_zero_r v)
absorb (suc n) v x h =
    absorb n (step v (x % 2)) (x / 2) (omega (arith, pow-suc 2 n)) ∙ ap (λ (r : ℕ). register r (bits_of n 0)) (sym one)
  where
    same : bit_xor (x % 2) (x % 2) ≡ 0
    same = xor_self (x % 2)

    one : step (bit_xor v x) 0 ≡ bit_xor (step v (x % 2)) (x / 2)
    one =
        ap (step (bit_xor v x)) (sym same) ∙ step_xor v x (x % 2) (x % 2) (odd_lt x) (odd_lt x)
        ∙ ap (λ (g : ℕ). bit_xor (step v (x % 2)) (bit_xor (x / 2) (g * 0x83))) same
        ∙ ap (bit_xor (step v (x % 2))) (xor_zero_r (x / 2))

eight_absorbs : (v x : ℕ) → v < 256 → x < 256 → register v (bits_of 8 x) ≡ eight (bit_xor x v)
unfolding eight
eight_absorbs v x hv hx =
    absorb 8 v x hx ∙ ap (λ (r : ℕ). register r (bits_of 8 0)) (xor_comm v x) ∙ sym (absorb 8 0 (bit_xor x v) (xor_lt 8 x v hx hv))

pub eight_lt : (x : ℕ) → x < 256 → eight x < 256
unfolding eight
eight_lt x h = bounded eight 256 256 tt x h

-- the register goes on by one data byte, that at i
pub register_next : (v : ℕ) (xs : List ℕ) (i : ℕ) → i < length xs → v < 256 → get_or xs i 0 < 256
    → register (eight (bit_xor (get_or xs i 0) v)) (sent (drop (i + 1) xs)) ≡ register v (sent (drop i xs))
unfolding sent
register_next v xs i h hv hx =
    rw (add-one, drop-cons xs i 0)
    (ap (λ (r : ℕ). register r (sent (drop (suc i) xs))) (sym (eight_absorbs v (get_or xs i 0) hv hx))
    ∙ sym (register_append v (bits_of 8 (get_or xs i 0)) (sent (drop (suc i) xs))))

-- ---- data bytes with their parity byte

pub length_with : (xs : List ℕ) → length (with_parity xs) ≡ length xs + 1
unfolding with_parity
length_with xs = length-append xs (parity xs ∷ [])

pub with_right : (m : ℕ) (xs : List ℕ) → length xs ≡ m → T (right m (with_parity xs))
unfolding with_parity
with_right m xs e =
    true_T (eq-eqb (parity (take m (xs ++ (parity xs ∷ [])))) (get_or (xs ++ (parity xs ∷ [])) m 0)
    (ap parity (take_at xs (parity xs ∷ []) m e)
    ∙ sym (ap (λ (i : ℕ). get_or (xs ++ (parity xs ∷ [])) i 0) (sym e) ∙ get_or-append_seam xs (parity xs) [] 0)))

-- a right block is its data bytes with their parity byte
pub right-parity : (m : ℕ) (block : List ℕ) → T (right m block) → parity (take m block) ≡ get_or block m 0
right-parity m block t = eqb→eq (parity (take m block)) (get_or block m 0) t
