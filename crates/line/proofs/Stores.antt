-- What the stores of each line make: with a line's elements spelled out, they compute to the definition.
use mathlib.Core.Path.{◌≡◌, refl, ap, ◌∙◌}
use mathlib.Core.Bool.{Bool, true, false, not, cond}
use mathlib.Core.List.{List, [], ◌∷◌, ◌++◌}
use Prim.Native.Nat.{ℕ, zero, suc, ◌-◌, ◌<◌}
use native.Mathlib.Omega.{arith}
use lib.Dec.{eqb}
use lib.ListN.{length, get_or, set, replicate}
use borrow.Author.Tests.{eq-eqb, lt-ltb}
use borrow.Rule.Slice.PartMut.{put_mid}
use Rattle.std.specs.Prelude.{Ok}
use Rattle.laws.specs.Bit.{bit}
use Rattle.laws.proofs.Spines.{spine, on_spine}
use Rattle.hdmi.specs.Island.{guard_word, header_bit, subpacket_bit, data_word, island_word, island}
use Rattle.hdmi.specs.Terc4.{terc4}
use Rattle.hdmi.specs.Period.{video_preamble, data_preamble, video_guard}
use Rattle.hdmi.proofs.Island.{length-island}
use Rattle.island.specs.Encode.{encode_asks}
use Rattle.refusal.specs.Verdict.{verdict}
use Rattle.timing.specs.declared.DviTiming.{DviTiming}
use Rattle.timing.specs.Command.{Send, raw, repeat, commanded, repeat_word}
use Rattle.timing.specs.Sync.{pair_for, sync_for}
use Rattle.line.specs.declared.EmptyIsland.{EmptyIsland}
use Rattle.line.specs.Line.{pulse_words, only_words, v_sync, lead, island_words, command_place, replaced, init_line, encode_line}
use Rattle.line.specs.Words.{framed}

pub pulse_made : (t : DviTiming) (v : Bool)
    → set (set (set (set (set (replicate 15 (sync_for t false v)) 0 (repeat_word t.h_front_porch)) 2 (repeat_word t.h_sync_width)) 3 (sync_for t true v)) 4 (repeat_word (t.h_back_porch - 8))) 6 8
    ≡ pulse_words t v
unfolding pulse_words
pulse_made t v = refl

pub only_made : (t : DviTiming) (v : Bool)
    → set (set (replicate 11 (sync_for t false v)) 0 (repeat_word (t.h_active_pixels - 8))) 2 8 ≡ only_words t v
unfolding only_words
only_made t v = refl

-- the stores of `init_data_island`
abbrev init_stored : DviTiming → List ℕ → List ℕ
init_stored t l =
    set (set (set (set (set (set l 0 (repeat_word (t.h_front_porch - 8))) 2 (repeat_word 8)) 4 36) 41 (repeat_word (t.h_sync_width - 36))) 43 (repeat_word (t.h_back_porch - 10))) 45 10

pub init_made : (t : DviTiming) (l : List ℕ) → length l ≡ 56 → init_stored t l ≡ init_line t l
unfolding init_line island_words island
init_made t l h = on_spine 56 (λ m. init_stored t m ≡ init_line t m) l h refl

-- an island line of which the island is e and the last ten words are r
abbrev pub around : DviTiming → ℕ → List ℕ → List ℕ → List Send
around t s e r =
    repeat (t.h_front_porch - 8) (sync_for t false (v_sync s)) ∷ repeat 8 (data_preamble (pair_for t false (v_sync s))) ∷ raw e
    ∷ repeat (t.h_sync_width - 36) (sync_for t true (v_sync s)) ∷ repeat (t.h_back_porch - 10) (sync_for t false (v_sync s)) ∷ raw r ∷ []

-- the stores of `encode_data_island`: the island e, then the control words and the last ten, r
abbrev encode_stored : DviTiming → ℕ → List ℕ → List ℕ → List ℕ → List ℕ
encode_stored t s e r l =
    put_mid 46 10
    (set (set (set (set (put_mid 5 36 l e) 1 (sync_for t false (v_sync s))) 3 (data_preamble (pair_for t false (v_sync s)))) 42 (sync_for t true (v_sync s))) 44 (sync_for t false (v_sync s)))
    r

stored_around : (t : DviTiming) (s : ℕ) (e r l : List ℕ) → length e ≡ 36 → length r ≡ 10 → length l ≡ 56
    → encode_stored t s e r l ≡ replaced (λ k. not (command_place k)) (commanded (around t s e r)) l
stored_around t s e r l he hr hl =
    on_spine 36 (λ e. encode_stored t s e r l ≡ replaced (λ k. not (command_place k)) (commanded (around t s e r)) l) e he
    (on_spine 10 (λ r. encode_stored t s (spine 36 e) r l ≡ replaced (λ k. not (command_place k)) (commanded (around t s (spine 36 e) r)) l) r hr
    (on_spine 56 (λ l. encode_stored t s (spine 36 e) (spine 10 r) l ≡ replaced (λ k. not (command_place k)) (commanded (around t s (spine 36 e) (spine 10 r))) l) l hl
    refl))

lead_by : (b : Bool) (x y z : ℕ) → length (cond b (replicate 8 x ++ replicate 2 y) (replicate 10 z)) ≡ 10
lead_by true x y z = refl
lead_by false x y z = refl

pub length-lead : (t : DviTiming) (s : ℕ) → length (lead t s) ≡ 10
length-lead t s = lead_by (eqb s 3) (video_preamble (pair_for t false (v_sync s))) video_guard (sync_for t false (v_sync s))

pub encode_made : (t : DviTiming) (s : ℕ) (p l : List ℕ) → length l ≡ 56
    → framed t s (put_mid 5 36 l (island (pair_for t true (v_sync s)) p)) ≡ encode_line t s p l
unfolding encode_line island_words framed
encode_made t s p l h =
    stored_around t s (island (pair_for t true (v_sync s)) p) (lead t s) l (length-island (pair_for t true (v_sync s)) p) (length-lead t s) h

-- the island's writer has nothing to refuse here
pub island_fine : (hv : ℕ) (p w : List ℕ) → hv < 4 → length p ≡ 36 → length w ≡ 36 → verdict (encode_asks hv p w) ≡ Ok tt
island_fine hv p w a b c = simp (eq-eqb (length p) 36 b, eq-eqb (length w) 36 c, lt-ltb hv 4 a)

-- ---- an island of zeros

-- two guard words, the first character, 31 that are alike, two guard words
empty_by : (hv : ℕ) → hv < 4
    → set (set (set (set (set (replicate 36 (data_word hv (replicate 36 0) 1)) 0 (guard_word hv)) 1 (guard_word hv)) 2 (data_word hv (replicate 36 0) 0)) 34 (guard_word hv)) 35 (guard_word hv)
    ≡ island hv (replicate 36 0)
unfolding island island_word data_word guard_word header_bit subpacket_bit bit terc4
empty_by zero h = refl
empty_by (suc zero) h = refl
empty_by (suc (suc zero)) h = refl
empty_by (suc (suc (suc zero))) h = refl
empty_by (suc (suc (suc (suc hv)))) h = absurd (omega arith)

-- by sync pair, the words of such an island
abbrev of_zeros : ℕ → EmptyIsland
of_zeros hv = record { guard = guard_word hv; first = data_word hv (replicate 36 0) 0; later = data_word hv (replicate 36 0) 1 }

abbrev pub empties : List EmptyIsland
empties = of_zeros 0 ∷ of_zeros 1 ∷ of_zeros 2 ∷ of_zeros 3 ∷ []

empties_at : (hv : ℕ) (none : EmptyIsland) → hv < 4 → get_or empties hv none ≡ of_zeros hv
empties_at zero none h = refl
empties_at (suc zero) none h = refl
empties_at (suc (suc zero)) none h = refl
empties_at (suc (suc (suc zero))) none h = refl
empties_at (suc (suc (suc (suc hv)))) none h = absurd (omega arith)

abbrev empty_stored : EmptyIsland → List ℕ
empty_stored e = set (set (set (set (set (replicate 36 e.later) 0 e.guard) 1 e.guard) 2 e.first) 34 e.guard) 35 e.guard

pub empty_made : (hv : ℕ) (none : EmptyIsland) → hv < 4 → empty_stored (get_or empties hv none) ≡ island hv (replicate 36 0)
empty_made hv none h = ap empty_stored (empties_at hv none h) ∙ empty_by hv h
