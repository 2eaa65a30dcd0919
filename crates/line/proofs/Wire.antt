-- What the lines put on the wire, each command word expanded as the datasheet says, for every accepted timing.
use mathlib.Core.Path.{◌≡◌, refl, ap, ◌∙◌}
use mathlib.Core.Bool.{Bool, true, false}
use mathlib.Core.List.{List, ◌++◌, append-nil, append_assoc}
use Prim.Native.Nat.{ℕ, ◌+◌, ◌-◌, ◌≤◌, ◌<◌}
use native.Mathlib.Omega.{arith}
use lib.ListN.{length, replicate, length-append, length-replicate, replicate-append-replicate}
use borrow.Author.Tests.{ne_eqb}
use Rattle.std.specs.Prelude.{Ok}
use Rattle.hdmi.specs.Island.{island}
use Rattle.hdmi.specs.Period.{data_preamble}
use Rattle.hdmi.proofs.Island.{length-island}
use Rattle.refusal.specs.Verdict.{verdict}
use Rattle.timing.specs.declared.DviTiming.{DviTiming}
use Rattle.timing.specs.Command.{expand}
use Rattle.timing.specs.Sync.{pair_for, sync_for}
use Rattle.timing.specs.Timing.{timing_asks}
use Rattle.timing.proofs.Expanding.{expands}
use Rattle.timing.proofs.Ranges.{Within, accepted}
use Rattle.line.specs.Line.{sync_pulse, pulse_words, sync_only, only_words, v_sync, lead, island_line, island_words}
use Rattle.line.proofs.Stores.{length-lead}

-- one word sent in two parts
parts : (n m : ℕ) (w : ℕ) → m ≤ n → replicate (n - m) w ++ replicate m w ≡ replicate n w
parts n m w h =
    let e : n - m + m ≡ n = omega arith in
    replicate-append-replicate (n - m) m w ∙ ap (λ (k : ℕ). replicate k w) e

-- what is left of a width after m characters, and a count that is known, are counts that a command takes
less : {low x : ℕ} (m : ℕ) → Within low x → m < low → Within 1 (x - m)
less {low} {x} m w h =
    let l = w.least in
    let u = w.most in
    record { least = omega arith; most = omega arith }

count : {n : ℕ} (m : ℕ) → n ≡ m → 1 ≤ m → m ≤ 4095 → Within 1 n
count {n} m e l u = record { least = omega arith; most = omega arith }

wide : {low x : ℕ} → Within low x → 1 ≤ low → Within 1 x
wide {low} {x} w h = let l = w.least in record { least = omega arith; most = w.most }

module _ (t : DviTiming) (ok : verdict (timing_asks t) ≡ Ok tt) where
  -- front porch, sync, back porch
  pub pulse_wire : (v : Bool) → expand (pulse_words t v)
      ≡ replicate t.h_front_porch (sync_for t false v) ++ replicate t.h_sync_width (sync_for t true v) ++ replicate t.h_back_porch (sync_for t false v)
  unfolding pulse_words
  pulse_wire v =
      let a = accepted t ok in
      expands (sync_pulse t v)
      (wide a.h_front (omega arith), (wide a.h_sync (omega arith), (less 8 a.h_back (omega arith), (count 8 refl (omega arith) (omega arith), tt))))
      ∙ ap (λ (l : List ℕ). replicate t.h_front_porch (sync_for t false v) ++ (replicate t.h_sync_width (sync_for t true v) ++ l))
      (parts t.h_back_porch 8 (sync_for t false v) (omega (arith, a.h_back.least)))
      ∙ simp append_assoc

  -- as many as there are active pixels
  pub only_wire : (v : Bool) → expand (only_words t v) ≡ replicate t.h_active_pixels (sync_for t false v)
  unfolding only_words
  only_wire v =
      let a = accepted t ok in
      expands (sync_only t v) (less 8 a.h_active (omega arith), (count 8 refl (omega arith) (omega arith), tt))
      ∙ parts t.h_active_pixels 8 (sync_for t false v) (omega (arith, a.h_active.least))

  module _ (s : ℕ) (p : List ℕ) where
    -- front porch with the island's preamble at its end, sync with the island at its start, back porch with the last ten before the pixels
    pub island-wire : expand (island_words t s p)
        ≡ replicate (t.h_front_porch - 8) (sync_for t false (v_sync s)) ++ replicate 8 (data_preamble (pair_for t false (v_sync s)))
        ++ island (pair_for t true (v_sync s)) p ++ replicate (t.h_sync_width - 36) (sync_for t true (v_sync s))
        ++ replicate (t.h_back_porch - 10) (sync_for t false (v_sync s)) ++ lead t s
    unfolding island_words
    island-wire =
        let a = accepted t ok in
        expands (island_line t s p) (
          less 8 a.h_front (omega arith),
          (
            count 8 refl (omega arith) (omega arith),
            (
              count 36 (length-island (pair_for t true (v_sync s)) p) (omega arith) (omega arith),
              (
                less 36 a.h_sync (omega arith),
                (less 10 a.h_back (omega arith), (count 10 (length-lead t s) (omega arith) (omega arith), tt)),
              ),
            ),
          ),
        )
        ∙ simp (append_assoc, append-nil)

    -- in a line that no pixels follow the back porch has nothing but the sync levels
    pub blank-wire : (s ≡ 3 → ⊥) → replicate (t.h_back_porch - 10) (sync_for t false (v_sync s)) ++ lead t s ≡ replicate t.h_back_porch (sync_for t false (v_sync s))
    blank-wire n =
        let a = accepted t ok in
        simp (ne_eqb s 3 n) (parts t.h_back_porch 10 (sync_for t false (v_sync s)) (omega (arith, a.h_back.least)))

    -- ---- totals

    pub island-total : length (expand (island_words t s p)) ≡ t.h_front_porch + t.h_sync_width + t.h_back_porch
    island-total =
        let a = accepted t ok in
        ap length island-wire
        ∙ simp (length-append, length-replicate, length-island, length-lead) (omega (arith, a.h_front.least, a.h_sync.least, a.h_back.least))

  pub pulse_total : (v : Bool) → length (expand (pulse_words t v)) ≡ t.h_front_porch + t.h_sync_width + t.h_back_porch
  pulse_total v = ap length (pulse_wire v) ∙ simp (length-append, length-replicate) (omega arith)

  pub only_total : (v : Bool) → length (expand (only_words t v)) ≡ t.h_active_pixels
  only_total v = ap length (only_wire v) ∙ length-replicate t.h_active_pixels (sync_for t false v)
