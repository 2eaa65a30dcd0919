-- `init_data_island` and `encode_data_island`, in either order, fix all 56 words, whatever the line held; and what each writes and leaves, place by place.
use mathlib.Core.Path.{◌≡◌, refl, ap, ◌∙◌}
use mathlib.Core.Bool.{true, not, cond}
use mathlib.Core.List.{List}
use Prim.Native.Nat.{ℕ, ◌<◌}
use lib.Dec.{ltb}
use lib.ListN.{length, get_or, take, drop, replicate}
use Rattle.std.specs.Prelude.{Ok}
use Rattle.laws.proofs.Spines.{spine, on_spine, length_made}
use Rattle.laws.proofs.Tables.{made_at}
use Rattle.hdmi.specs.Island.{island}
use Rattle.hdmi.proofs.Island.{length-island}
use Rattle.refusal.specs.declared.Refusal.TheVariants.{Unlisted}
use Rattle.refusal.specs.Verdict.{verdict, kept, Verdict}
use Rattle.timing.specs.declared.DviTiming.{DviTiming}
use Rattle.timing.specs.Command.{commanded}
use Rattle.timing.specs.Sync.{pair_for}
use Rattle.timing.specs.Timing.{timing_asks}
use Rattle.refusal.proofs.Upward.{held}
use Rattle.line.specs.Asks.{line_asks, island_asks}
use Rattle.line.specs.Line.{v_sync, lead, island_words, command_place, replaced, init_line, encode_line}
use Rattle.line.proofs.Stores.{around, length-lead}

-- ---- place by place

pub init_at : (t : DviTiming) (l : List ℕ) (k : ℕ) → k < 56
    → get_or (init_line t l) k 0 ≡ cond (command_place k) (get_or (island_words t 0 (replicate 36 0)) k 0) (get_or l k 0)
unfolding init_line
init_at t l k h = made_at (λ k. cond (command_place k) (get_or (island_words t 0 (replicate 36 0)) k 0) (get_or l k 0)) 56 k h

pub encode_at : (t : DviTiming) (s : ℕ) (p l : List ℕ) (k : ℕ) → k < 56
    → get_or (encode_line t s p l) k 0 ≡ cond (not (command_place k)) (get_or (island_words t s p) k 0) (get_or l k 0)
unfolding encode_line
encode_at t s p l k h = made_at (λ k. cond (not (command_place k)) (get_or (island_words t s p) k 0) (get_or l k 0)) 56 k h

pub length_init : (t : DviTiming) (l : List ℕ) → length (init_line t l) ≡ 56
unfolding init_line
length_init t l = length_made (λ k. cond (command_place k) (get_or (island_words t 0 (replicate 36 0)) k 0) (get_or l k 0)) 0 56

pub length_encode : (t : DviTiming) (s : ℕ) (p l : List ℕ) → length (encode_line t s p l) ≡ 56
unfolding encode_line
length_encode t s p l = length_made (λ k. cond (not (command_place k)) (get_or (island_words t s p) k 0) (get_or l k 0)) 0 56

-- ---- a law on island lines, from the line with any island of 36 words and any last ten words

module _ (t : DviTiming) (s : ℕ) (p : List ℕ) where
  on_line : (P : List ℕ → Type 0) → ((e r : List ℕ) → P (commanded (around t s (spine 36 e) (spine 10 r)))) → P (island_words t s p)
  unfolding island_words
  on_line P f =
      on_spine 36 (λ e. P (commanded (around t s e (lead t s)))) (island (pair_for t true (v_sync s)) p) (length-island (pair_for t true (v_sync s)) p)
      (on_spine 10 (λ r. P (commanded (around t s (spine 36 (island (pair_for t true (v_sync s)) p)) r))) (lead t s) (length-lead t s)
      (f (island (pair_for t true (v_sync s)) p) (lead t s)))

  -- the command words are the same for every state and packet
  pub commands_alike : (l : List ℕ) → replaced command_place (island_words t s p) l ≡ init_line t l
  unfolding init_line island_words island
  commands_alike l = on_line (λ w. replaced command_place w l ≡ init_line t l) (λ e r. refl)

  pub init_first : (l : List ℕ) → encode_line t s p (init_line t l) ≡ island_words t s p
  unfolding init_line encode_line island_words island
  init_first l = on_line (λ w. replaced (λ k. not (command_place k)) w (init_line t l) ≡ w) (λ e r. refl)

  pub encode_first : (l : List ℕ) → init_line t (encode_line t s p l) ≡ island_words t s p
  unfolding init_line encode_line island_words island
  encode_first l = on_line (λ w. init_line t (replaced (λ k. not (command_place k)) w l) ≡ w) (λ e r. refl)

  -- the island stands in words 5 to 40: that of the packet, and of the sync pair that timing and state give
  pub inside : take 36 (drop 5 (island_words t s p)) ≡ island (pair_for t true (v_sync s)) p
  unfolding island_words island
  inside = refl

-- ---- the two calls, one after the other

-- what a line holds after each
abbrev pub inited : DviTiming → List ℕ → List ℕ
inited t l = kept (verdict (line_asks t (length l) 56)) (init_line t l) l

abbrev pub encoded : DviTiming → ℕ → List ℕ → List ℕ → List ℕ
encoded t s p l = kept (verdict (island_asks t (length l) (length p) s)) (encode_line t s p l) l

module _ (t : DviTiming) (s : ℕ) (p : List ℕ) (packet : length p ≡ 36) (ok : verdict (island_asks t 56 36 s) ≡ Ok tt) where
  fine_timing : verdict (timing_asks t) ≡ Ok tt
  fine_timing = (held (ltb s 4) Unlisted (timing_asks t) ok).1

  inited_is : (l : List ℕ) → length l ≡ 56 → inited t l ≡ init_line t l
  inited_is l h =
      ap (λ (n : ℕ). kept (verdict (line_asks t n 56)) (init_line t l) l) h ∙ ap (λ (v : Verdict). kept v (init_line t l) l) fine_timing

  encoded_is : (l : List ℕ) → length l ≡ 56 → encoded t s p l ≡ encode_line t s p l
  encoded_is l h =
      ap (λ (n : ℕ). kept (verdict (island_asks t n (length p) s)) (encode_line t s p l) l) h
      ∙ ap (λ (n : ℕ). kept (verdict (island_asks t 56 n s)) (encode_line t s p l) l) packet
      ∙ ap (λ (v : Verdict). kept v (encode_line t s p l) l) ok

  pub init_then_encode : (l : List ℕ) → length l ≡ 56 → encoded t s p (inited t l) ≡ island_words t s p
  init_then_encode l h =
      ap (encoded t s p) (inited_is l h) ∙ encoded_is (init_line t l) (length_init t l) ∙ init_first t s p l

  pub encode_then_init : (l : List ℕ) → length l ≡ 56 → inited t (encoded t s p l) ≡ island_words t s p
  encode_then_init l h =
      ap (inited t) (encoded_is l h) ∙ inited_is (encode_line t s p l) (length_encode t s p l) ∙ encode_first t s p l

-- ---- the empty form

abbrev pub emptied : DviTiming → ℕ → List ℕ → List ℕ
emptied t s l = kept (verdict (island_asks t (length l) 36 s)) (encode_line t s (replicate 36 0) l) l

-- it leaves the line as the form with 36 zeros does, refused or not
pub empty_is_zeros : (t : DviTiming) (s : ℕ) (l : List ℕ) → emptied t s l ≡ encoded t s (replicate 36 0) l
empty_is_zeros t s l = refl
