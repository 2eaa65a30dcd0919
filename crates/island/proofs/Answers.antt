-- What the entries answer: `encode`'s questions in the table's order, islands that are all different, and a transposition that undoes itself.
use mathlib.Core.Path.{◌≡◌, sym, ap, ◌∙◌}
use mathlib.Core.List.{List}
use Prim.Native.Nat.{ℕ, ◌^◌, ◌<◌}
use borrow.Author.Tests.{eq-eqb, lt-ltb}
use lib.Dec.{T}
use lib.ListN.{length, get_or}
use Rattle.std.specs.Prelude.{Ok}
use Rattle.laws.specs.Bit.{bit}
use Rattle.laws.proofs.Bits.{bit_ext}
use Rattle.laws.proofs.Finite.{agreed, bounded}
use Rattle.refusal.specs.Verdict.{verdict, kept, rising}
use Rattle.hdmi.specs.Island.{island}
use Rattle.hdmi.proofs.Once.{pair_once, packet_once}
use Rattle.island.specs.Encode.{encode_asks}
use Rattle.island.specs.Words.{transposed}

pub encode_in_order : (hv : ℕ) (p w : List ℕ) → T (rising (encode_asks hv p w))
encode_in_order hv p w = tt

-- a packet and a sync pair in range are encoded
pub encode_fine : (hv : ℕ) (p w : List ℕ) → length p ≡ 36 → length w ≡ 36 → hv < 4 → verdict (encode_asks hv p w) ≡ Ok tt
encode_fine hv p w hp hw h = simp (eq-eqb (length p) 36 hp, eq-eqb (length w) 36 hw, lt-ltb hv 4 h)

-- what `encode` leaves in the words it was lent
abbrev pub encoded : ℕ → List ℕ → List ℕ → List ℕ
encoded hv p w = kept (verdict (encode_asks hv p w)) (island hv p) w

pub encoded_is : (hv : ℕ) (p w : List ℕ) → length p ≡ 36 → length w ≡ 36 → hv < 4 → encoded hv p w ≡ island hv p
encoded_is hv p w hp hw h = simp (encode_fine hv p w hp hw h)

-- two calls that leave the same words had the same sync pair and the same packet
module _ (hv hw : ℕ) (p q w x : List ℕ) (hp : hv < 4) (hq : hw < 4) (lp : length p ≡ 36) (lq : length q ≡ 36) (lw : length w ≡ 36) (lx : length x ≡ 36) (bp : (m : ℕ) → get_or p m 0 < 256) (bq : (m : ℕ) → get_or q m 0 < 256) (e : encoded hv p w ≡ encoded hw q x) where
  same : island hv p ≡ island hw q
  same = sym (encoded_is hv p w lp lw hp) ∙ e ∙ encoded_is hw q x lq lx hq

  pub encoded_once : (hv ≡ hw) × (p ≡ q)
  encoded_once = (pair_once hv hw p q hp hq same, packet_once hv hw p q hp hq same lp lq bp bq)

-- ---- the transposition: no second word fits, and done twice it undoes itself

abbrev Moved : ℕ → ℕ → Type 0
Moved v r = (k : ℕ) → k < 32 → bit k r ≡ bit (transposed k) v

pub transposed_once : (v r q : ℕ) → r < 2 ^ 32 → q < 2 ^ 32 → Moved v r → Moved v q → r ≡ q
transposed_once v r q hr hq a b = bit_ext 32 r q hr hq (λ k h. a k h ∙ sym (b k h))

inside : (k : ℕ) → k < 32 → transposed k < 32
inside = bounded transposed 32 32 tt

there_and_back : (k : ℕ) → k < 32 → transposed (transposed k) ≡ k
there_and_back = agreed (λ k. transposed (transposed k)) (λ k. k) 32 tt

pub transposed-twice : (v r q : ℕ) → v < 2 ^ 32 → q < 2 ^ 32 → Moved v r → Moved r q → q ≡ v
transposed-twice v r q hv hq a b =
    bit_ext 32 q v hq hv (λ k h. b k h ∙ a (transposed k) (inside k h) ∙ ap (λ (j : ℕ). bit j v) (there_and_back k h))
