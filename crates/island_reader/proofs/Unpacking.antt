-- How the packet's bytes come to their places.
use mathlib.Core.Path.{◌≡◌, refl, sym, ap, ◌∙◌}
use mathlib.Core.Bool.{cond}
use mathlib.Core.List.{List}
use Prim.Native.Nat.{ℕ, zero, suc, ◌+◌, ◌-◌, ◌*◌, ◌/◌, ◌%◌, ◌≤◌, ◌<◌}
use native.Mathlib.Decide.{dec_lt}
use native.Mathlib.Omega.{arith}
use borrow.Author.Tests.{lt-ltb, le-ltb}
use lib.Dec.{ltb}
use lib.ListN.{length, get_or, set, length-set}
use lib.Seq.{ext_get_or}
use Rattle.std.proofs.lemmas.List.{get_or-set_same, get_or-set_other}
use Rattle.laws.proofs.Stores.{four_stored, four_length, elsewhere, first_store, second_store, third_store, fourth_store}
use Rattle.laws.proofs.Tables.{made_at}
use Rattle.island_reader.specs.Numbers.{header_byte_in, subpacket_byte_in, packet_in, Unpacked}

abbrev pub byte_in : List ℕ → ℕ → ℕ
byte_in ns m = cond (ltb m 4) (header_byte_in ns m) (subpacket_byte_in ns ((m - 4) / 8) ((m - 4) % 8))

pub length_packet : (ns : List ℕ) → length (packet_in ns) ≡ 36
unfolding packet_in
length_packet ns = refl

pub packet_at : (ns : List ℕ) (m : ℕ) → m < 36 → get_or (packet_in ns) m 0 ≡ byte_in ns m
unfolding packet_in
packet_at ns = made_at (byte_in ns) 36

-- a packet with the header's bytes before m
pub record Headed (ns : List ℕ) (m : ℕ) (p : List ℕ) : Type 0 where
  pub long : length p ≡ 36
  pub head : (k : ℕ) → k < m → get_or p k 0 ≡ header_byte_in ns k

head_by : (ns p : List ℕ) (m x k : ℕ) → Headed ns m p → m < 36 → x ≡ header_byte_in ns m → k < m + 1 → Dec (k < m) → get_or (set p m x) k 0 ≡ header_byte_in ns k
head_by ns p m x k h l e u (yes b) = get_or-set_other p m k x 0 (λ d. omega arith) ∙ h.head k b
head_by ns p m x k h l e u (no b) =
    let d : k ≡ m = omega (arith, b) in
    ap (λ (j : ℕ). get_or (set p m x) j 0) d ∙ get_or-set_same p m x 0 (omega (arith, h.long)) ∙ e ∙ ap (header_byte_in ns) (sym d)

-- one more of the header's
pub headed_more : (ns p : List ℕ) (m x : ℕ) → Headed ns m p → m < 36 → x ≡ header_byte_in ns m → Headed ns (m + 1) (set p m x)
headed_more ns p m x h l e =
    record { long = simp length-set h.long; head = λ k u. head_by ns p m x k h l e u (dec_lt k m) }

pub headed_all : (ns p : List ℕ) (m : ℕ) → 4 ≤ m → Headed ns m p → Unpacked ns 0 p
headed_all ns p m l h =
    record { long = h.long; head = λ k u. h.head k (omega arith); rows = λ s j hs hj. absurd (omega arith) }

-- byte i of each subpacket
module _ (ns l : List ℕ) (i x y z w : ℕ) (h : i < 8) (u : Unpacked ns i l) (ex : x ≡ subpacket_byte_in ns 0 i) (ey : y ≡ subpacket_byte_in ns 1 i) (ez : z ≡ subpacket_byte_in ns 2 i) (ew : w ≡ subpacket_byte_in ns 3 i) where
  abbrev stored : List ℕ
  stored = four_stored l (4 + i) (12 + i) (20 + i) (28 + i) x y z w

  stays : (m : ℕ) → (m ≡ 4 + i → ⊥) → (m ≡ 12 + i → ⊥) → (m ≡ 20 + i → ⊥) → (m ≡ 28 + i → ⊥) → get_or stored m 0 ≡ get_or l m 0
  stays = elsewhere l (4 + i) (12 + i) (20 + i) (28 + i) x y z w

  new : (s m : ℕ) → s < 4 → m ≡ 4 + 8 * s + i → get_or stored m 0 ≡ subpacket_byte_in ns s i
  new zero m hs e =
      ap (λ (k : ℕ). get_or stored k 0) (e ∙ omega arith)
      ∙ first_store l (4 + i) (12 + i) (20 + i) (28 + i) x y z w (omega (arith, u.long)) (λ e. omega arith) (λ e. omega arith) (λ e. omega arith) ∙ ex
  new (suc zero) m hs e =
      ap (λ (k : ℕ). get_or stored k 0) (e ∙ omega arith)
      ∙ second_store l (4 + i) (12 + i) (20 + i) (28 + i) x y z w (omega (arith, u.long)) (λ e. omega arith) (λ e. omega arith) ∙ ey
  new (suc (suc zero)) m hs e =
      ap (λ (k : ℕ). get_or stored k 0) (e ∙ omega arith)
      ∙ third_store l (4 + i) (12 + i) (20 + i) (28 + i) x y z w (omega (arith, u.long)) (λ e. omega arith) ∙ ez
  new (suc (suc (suc zero))) m hs e =
      ap (λ (k : ℕ). get_or stored k 0) (e ∙ omega arith)
      ∙ fourth_store l (4 + i) (12 + i) (20 + i) (28 + i) x y z w (omega (arith, u.long)) ∙ ew
  new (suc (suc (suc (suc s)))) m hs e = absurd (omega arith)

  row : (s j : ℕ) → s < 4 → j < i + 1 → Dec (j < i) → get_or stored (4 + 8 * s + j) 0 ≡ subpacket_byte_in ns s j
  row s j hs hj (yes l) =
      stays (4 + 8 * s + j) (λ e. omega arith) (λ e. omega arith) (λ e. omega arith) (λ e. omega arith) ∙ u.rows s j hs l
  row s j hs hj (no l) =
      let e : j ≡ i = omega (arith, l) in
      new s (4 + 8 * s + j) hs (ap (λ (k : ℕ). 4 + 8 * s + k) e) ∙ ap (subpacket_byte_in ns s) (sym e)

  pub with_group : Unpacked ns (i + 1) stored
  with_group =
      record {
        long = four_length l (4 + i) (12 + i) (20 + i) (28 + i) x y z w ∙ u.long;
        head = λ m k. stays m (λ e. omega arith) (λ e. omega arith) (λ e. omega arith) (λ e. omega arith) ∙ u.head m k;
        rows = λ s j hs hj. row s j hs hj (dec_lt j i);
      }

-- all of it
at_place : (ns l : List ℕ) → Unpacked ns 8 l → (m : ℕ) → m < 36 → Dec (m < 4) → get_or l m 0 ≡ byte_in ns m
at_place ns l u m h (yes k) = u.head m k ∙ sym (simp (lt-ltb m 4 k))
at_place ns l u m h (no k) =
    let s : ℕ = (m - 4) / 8 in
    let j : ℕ = (m - 4) % 8 in
    let g : 4 ≤ m = omega (arith, k) in
    let e : m ≡ 4 + 8 * s + j = omega arith in
    ap (λ (n : ℕ). get_or l n 0) e ∙ u.rows s j (omega arith) (omega arith) ∙ sym (simp (le-ltb m 4 g))

pub all_unpacked : (ns l : List ℕ) → Unpacked ns 8 l → l ≡ packet_in ns
all_unpacked ns l u =
    ext_get_or 0 l (packet_in ns) (u.long ∙ sym (length_packet ns))
    (λ m h. at_place ns l u m (omega (arith, u.long)) (dec_lt m 4) ∙ sym (packet_at ns m (omega (arith, u.long))))
