-- A refusal is one that applies, one is given whenever one applies, and none that applies has a lower number, or the same number and a lower place.
use mathlib.Core.Path.{◌≡◌, refl, sym, ap, subst, ◌∙◌}
use mathlib.Core.Bool.{Bool, false, not, cond}
use mathlib.Core.List.{List, [], ◌∷◌}
use Prim.Native.Nat.{ℕ, zero, suc, ◌≤◌}
use native.Mathlib.Decide.{ℕ_discrete}
use native.Mathlib.Omega.{arith}
use borrow.Author.Tests.{eqb-false, ne_eqb, not-true}
use lib.Dec.{T, eqb}
use lib.ListN.{length, get_or}
use Rattle.std.specs.Prelude.{Err}
use Rattle.refusal.specs.declared.Refusal.{Refusal}
use Rattle.refusal.specs.declared.Refusal.TheVariants.{Length, HighBits, GuardWord, NotTerc4, SyncBits, HeaderParity, SubpacketParity}
use Rattle.refusal.specs.Refusal.{number_of, place_of}
use Rattle.refusal.specs.Verdict.{Ask, verdict, rising}
use Rattle.refusal.proofs.Verdicts.{Fails, here, later, applies, refused, lowest}
use Rattle.hdmi.specs.Parity.{right}
use Rattle.hdmi.specs.Packet.{subpacket}
use Rattle.island_reader.specs.Exact.{Applies, lengths, high, guard, lane, sync, in_header, in_subpacket}
use Rattle.island_reader.specs.Found.{pair_of, packet_found}
use Rattle.island_reader.specs.Read.{nowhere, high_bits, guard_place, guard_wrong, lane_wrong, sync_wrong, high_ask, guard_ask, lane_ask, sync_ask, word_asks, read_asks}
use Rattle.island_reader.proofs.Nowhere.{fails_means, fails_at}

pub read_in_order : (ws out : List ℕ) → T (rising (read_asks ws out))
unfolding word_asks nowhere
read_in_order ws out = tt

-- the guard words' places rise
guard_rises : (j k : ℕ) → j ≤ k → guard_place j ≤ guard_place k
guard_rises zero k h = omega arith
guard_rises (suc zero) zero h = absurd (omega arith)
guard_rises (suc zero) (suc zero) h = omega arith
guard_rises (suc zero) (suc (suc zero)) h = omega arith
guard_rises (suc zero) (suc (suc (suc k))) h = omega arith
guard_rises (suc (suc zero)) zero h = absurd (omega arith)
guard_rises (suc (suc zero)) (suc zero) h = absurd (omega arith)
guard_rises (suc (suc zero)) (suc (suc zero)) h = omega arith
guard_rises (suc (suc zero)) (suc (suc (suc k))) h = omega arith
guard_rises (suc (suc (suc j))) zero h = absurd (omega arith)
guard_rises (suc (suc (suc j))) (suc zero) h = absurd (omega arith)
guard_rises (suc (suc (suc j))) (suc (suc zero)) h = absurd (omega arith)
guard_rises (suc (suc (suc j))) (suc (suc (suc k))) h = omega arith

-- what each question of a list gives where it fails holds of whichever failed
pub data Each (P : Refusal → Type 0) : List Ask → Type 0 where
  no_more : Each P []
  and : {q : Ask} {qs : List Ask} → (q.holds ≡ false → P q.otherwise) → Each P qs → Each P (q ∷ qs)

pub each : {P : Refusal → Type 0} {qs : List Ask} {r : Refusal} → Each P qs → Fails qs r → P r
each no_more f = elim f [ ]
each (and x rest) (here e) = x e
each (and x rest) (later f) = each rest f

module _ (ws out : List ℕ) where
  abbrev hv : ℕ
  hv = pair_of (get_or ws 0 0)

  abbrev block_ask : Ask
  block_ask = nowhere (λ s. not (right 7 (subpacket s (packet_found ws)))) 0 4 SubpacketParity

  -- ---- what fails applies

  from_high : (high_ask ws).holds ≡ false → Applies ws out (high_ask ws).otherwise
  from_high e =
      let m = fails_means (high_bits ws) 0 36 HighBits e in
      subst (Applies ws out) (sym m.says) (high m.at m.below m.met)

  from_guard : (guard_ask hv ws).holds ≡ false → Applies ws out (guard_ask hv ws).otherwise
  from_guard e =
      let m = fails_means (guard_wrong hv ws) 0 4 (λ j. GuardWord (guard_place j)) e in
      subst (Applies ws out) (sym m.says) (guard m.at m.below m.met)

  from_lane : (lane_ask ws).holds ≡ false → Applies ws out (lane_ask ws).otherwise
  from_lane e =
      let m = fails_means (lane_wrong ws) 2 32 NotTerc4 e in
      subst (Applies ws out) (sym m.says) (lane m.at m.from m.below m.met)

  from_sync : (sync_ask hv ws).holds ≡ false → Applies ws out (sync_ask hv ws).otherwise
  from_sync e =
      let m = fails_means (sync_wrong hv ws) 2 32 SyncBits e in
      subst (Applies ws out) (sym m.says) (sync m.at m.from m.below m.met)

  abbrev block_wrong : ℕ → Bool
  block_wrong s = not (right 7 (subpacket s (packet_found ws)))

  from_block : block_ask.holds ≡ false → Applies ws out block_ask.otherwise
  from_block e =
      let m = fails_means block_wrong 0 4 SubpacketParity e in
      subst (Applies ws out) (sym m.says) (in_subpacket m.at m.below (not-true (right 7 (subpacket m.at (packet_found ws))) m.met))

  each_applies : Each (Applies ws out) (read_asks ws out)
  unfolding word_asks
  each_applies =
      and (λ e. lengths (λ a b. eqb-false (length ws) 36 e a)) (and (λ e. lengths (λ a b. eqb-false (length out) 36 e b))
      (and from_high (and from_guard (and from_lane (and from_sync (and in_header (and from_block no_more)))))))

  -- the refusal that is given applies
  pub given_applies : (r : Refusal) → verdict (read_asks ws out) ≡ Err r → Applies ws out r
  given_applies r e = each each_applies (applies (read_asks ws out) r e)

  -- ---- what applies makes a question fail, with its number and at its place or a lower one

  pub record Asked (s : Refusal) : Type 0 where
    pub refusal : Refusal
    pub fails : Fails (read_asks ws out) refusal
    pub number : number_of refusal ≡ number_of s
    pub place : place_of refusal ≤ place_of s

  length_asked : (length ws ≡ 36 → length out ≡ 36 → ⊥) → Dec (length ws ≡ 36) → Asked Length
  length_asked n (no d) = record { refusal = Length; fails = here (ne_eqb (length ws) 36 d); number = refl; place = omega arith }
  length_asked n (yes d) = record { refusal = Length; fails = later (here (ne_eqb (length out) 36 (n d))); number = refl; place = omega arith }

  pub asked : (s : Refusal) → Applies ws out s → Asked s
  unfolding word_asks
  asked s (lengths n) = length_asked n (ℕ_discrete (length ws) 36)
  asked s (high i h t) =
      let l = fails_at (high_bits ws) 0 36 HighBits i (omega arith) h t in
      record {
        refusal = (high_ask ws).otherwise;
        fails = later (later (here l.fails));
        number = ap number_of l.says;
        place = omega (arith, ap place_of l.says, l.lower);
      }
  asked s (guard j h t) =
      let l = fails_at (guard_wrong hv ws) 0 4 (λ j. GuardWord (guard_place j)) j (omega arith) h t in
      record {
        refusal = (guard_ask hv ws).otherwise;
        fails = later (later (later (here l.fails)));
        number = ap number_of l.says;
        place = omega (arith, ap place_of l.says, guard_rises l.place j l.lower);
      }
  asked s (lane i a h t) =
      let l = fails_at (lane_wrong ws) 2 32 NotTerc4 i a h t in
      record {
        refusal = (lane_ask ws).otherwise;
        fails = later (later (later (later (here l.fails))));
        number = ap number_of l.says;
        place = omega (arith, ap place_of l.says, l.lower);
      }
  asked s (sync i a h t) =
      let l = fails_at (sync_wrong hv ws) 2 32 SyncBits i a h t in
      record {
        refusal = (sync_ask hv ws).otherwise;
        fails = later (later (later (later (later (here l.fails)))));
        number = ap number_of l.says;
        place = omega (arith, ap place_of l.says, l.lower);
      }
  asked s (in_header t) =
      record { refusal = HeaderParity; fails = later (later (later (later (later (later (here t)))))); number = refl; place = omega arith }
  asked s (in_subpacket k h t) =
      let l = fails_at block_wrong 0 4 SubpacketParity k (omega arith) h (ap not t) in
      record {
        refusal = block_ask.otherwise;
        fails = later (later (later (later (later (later (later (here l.fails)))))));
        number = ap number_of l.says;
        place = omega (arith, ap place_of l.says, l.lower);
      }

  -- a refusal is given exactly when one applies
  pub refused_when : (s : Refusal) → Applies ws out s → (r : Refusal) × (verdict (read_asks ws out) ≡ Err r)
  refused_when s a = refused (asked s a).fails

  -- ---- each number has one question, and so one refusal

  abbrev by_number : ℕ → Refusal
  by_number n =
      cond (eqb n 1) Length
      (cond (eqb n 12) (high_ask ws).otherwise
      (cond (eqb n 13) (guard_ask hv ws).otherwise
      (cond (eqb n 14) (lane_ask ws).otherwise
      (cond (eqb n 15) (sync_ask hv ws).otherwise (cond (eqb n 16) HeaderParity block_ask.otherwise)))))

  each_numbered : Each (λ r. r ≡ by_number (number_of r)) (read_asks ws out)
  unfolding word_asks nowhere
  each_numbered =
      and (λ e. refl) (and (λ e. refl) (and (λ e. refl) (and (λ e. refl) (and (λ e. refl) (and (λ e. refl) (and (λ e. refl) (and (λ e. refl) no_more)))))))

  -- none that applies has a lower number; nor, with the same number, a lower place
  pub none_lower : (r s : Refusal) → verdict (read_asks ws out) ≡ Err r → Applies ws out s
      → (number_of r ≤ number_of s) × (number_of r ≡ number_of s → place_of r ≤ place_of s)
  none_lower r s e a =
      let q = asked s a in
      let n : number_of r ≤ number_of q.refusal = lowest (read_in_order ws out) e q.fails in
      let same : number_of r ≡ number_of s → r ≡ q.refusal =
      λ d. each each_numbered (applies (read_asks ws out) r e) ∙ ap by_number (d ∙ sym q.number) ∙ sym (each each_numbered q.fails) in
      (omega (arith, q.number), λ d. omega (arith, ap place_of (same d), q.place))
