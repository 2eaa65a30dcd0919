-- How the 36 words become the island, one after the other.
use mathlib.Core.Path.{◌≡◌, sym, ap, subst, ◌∙◌}
use mathlib.Core.List.{List}
use Prim.Native.Nat.{ℕ, ◌+◌, ◌*◌, ◌≤◌, ◌<◌}
use native.Mathlib.Omega.{arith}
use lib.ListN.{set}
use Rattle.laws.specs.Front.{Front}
use Rattle.laws.proofs.Fronts.{front_more}
use Rattle.hdmi.specs.Island.{guard_word, data_word, island_word, island}
use Rattle.island.specs.Words.{Header, Rows}
use Rattle.hdmi.proofs.Island.{length-island, island_at, data_at, guard_low, guard_high}

-- the words before character 4 i, and the packet's bits from there on
pub record Sent (hv : ℕ) (p : List ℕ) (i header : ℕ) (rows words : List ℕ) : Type 0 where
  pub front : Front (island hv p) (2 + 4 * i) words
  pub head : Header p i header
  pub pairs : Rows p i rows

module _ (hv : ℕ) (p : List ℕ) where
  -- the indices m and n come as the code writes them
  put : (m n x : ℕ) (l : List ℕ) → n ≡ m + 1 → m < 36 → Front (island hv p) m l → x ≡ island_word hv p m → Front (island hv p) n (set l m x)
  put m n x l en h f e =
      subst (λ (u : ℕ). Front (island hv p) u (set l m x)) (sym en)
      (front_more (island hv p) l m x (omega (arith, length-island hv p)) f (e ∙ sym (island_at hv p m h)))

  pub put_data : (m n k x : ℕ) (l : List ℕ) → m ≡ 2 + k → n ≡ m + 1 → k < 32 → Front (island hv p) m l → x ≡ data_word hv p k → Front (island hv p) n (set l m x)
  put_data m n k x l em en h f e = put m n x l en (omega arith) f (e ∙ sym (data_at hv p k h) ∙ ap (island_word hv p) (sym em))

  pub put_low : (m n x : ℕ) (l : List ℕ) → n ≡ m + 1 → m < 2 → Front (island hv p) m l → x ≡ guard_word hv → Front (island hv p) n (set l m x)
  put_low m n x l en h f e = put m n x l en (omega arith) f (e ∙ sym (guard_low hv p m h))

  pub put_high : (m n x : ℕ) (l : List ℕ) → n ≡ m + 1 → 34 ≤ m → m < 36 → Front (island hv p) m l → x ≡ guard_word hv → Front (island hv p) n (set l m x)
  put_high m n x l en h u f e = put m n x l en u f (e ∙ sym (guard_high hv p m h))
