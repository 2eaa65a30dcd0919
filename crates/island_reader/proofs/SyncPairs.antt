-- The sync pair of a guard word, and the four guard words.
use mathlib.Core.Path.{◌≡◌, refl}
use mathlib.Core.Bool.{Bool, true, false, not, ◌&&◌}
use mathlib.Core.List.{List}
use Prim.Native.Nat.{ℕ, ◌<◌, ◌≤◌}
use borrow.Author.Tests.{eqb-true, eq-eqb, ne_eqb, lt-ltb, le-ltb}
use lib.Dec.{eqb, ltb}
use lib.ListN.{get_or}
use Rattle.laws.proofs.Finite.{agreed}
use Rattle.laws.proofs.Searching.{found, first_le}
use Rattle.hdmi.specs.Terc4.{terc4}
use Rattle.hdmi.specs.Island.{guard_word}
use Rattle.island_reader.specs.Found.{pair_of}
use Rattle.island_reader.specs.Read.{guard_place, guard_wrong}

pub pair_le : (w : ℕ) → pair_of w ≤ 4
unfolding pair_of
pair_le w = first_le (λ hv. eqb w (guard_word hv)) 0 4

pub pair_right : (w : ℕ) → pair_of w < 4 → w ≡ guard_word (pair_of w)
unfolding pair_of
pair_right w h = eqb-true w (guard_word (pair_of w)) (found (λ hv. eqb w (guard_word hv)) 0 4 h)

pub pair_guard : (hv : ℕ) → hv < 4 → pair_of (guard_word hv) ≡ hv
unfolding pair_of guard_word terc4
pair_guard = agreed (λ hv. pair_of (guard_word hv)) (λ hv. hv) 4 tt

-- ---- the four guard words

module _ (hv : ℕ) (ws : List ℕ) (j : ℕ) where
  pub guard_fine : hv < 4 → get_or ws (guard_place j) 0 ≡ guard_word hv → guard_wrong hv ws j ≡ false
  guard_fine h e = simp (lt-ltb hv 4 h, eq-eqb (get_or ws (guard_place j) 0) (guard_word hv) e)

  pub guard_other : (get_or ws (guard_place j) 0 ≡ guard_word hv → ⊥) → guard_wrong hv ws j ≡ true
  guard_other n = by (ltb hv 4) (ne_eqb (get_or ws (guard_place j) 0) (guard_word hv) n)
    where
      by : (t : Bool) {e : Bool} → e ≡ false → not (t && e) ≡ true
      by true d = simp d
      by false d = refl

  pub guard_none : 4 ≤ hv → guard_wrong hv ws j ≡ true
  guard_none h = simp (le-ltb hv 4 h)
