-- Four stores at four different places: each is found again, and nothing else changes.
use mathlib.Core.Path.{◌≡◌, ◌∙◌}
use mathlib.Core.List.{List}
use Prim.Native.Nat.{ℕ, ◌<◌}
use lib.ListN.{length, get_or, set, length-set}
use lib.Seq.{get_or-set_same, get_or-set_other, lt-length-set}

abbrev pub four_stored : List ℕ → ℕ → ℕ → ℕ → ℕ → ℕ → ℕ → ℕ → ℕ → List ℕ
four_stored l a b c d x y z w = set (set (set (set l a x) b y) c z) d w

module _ (l : List ℕ) (a b c d x y z w : ℕ) where
  abbrev two : List ℕ
  two = set (set l a x) b y

  pub four_length : length (four_stored l a b c d x y z w) ≡ length l
  four_length = simp length-set

  pub elsewhere : (m : ℕ) → (m ≡ a → ⊥) → (m ≡ b → ⊥) → (m ≡ c → ⊥) → (m ≡ d → ⊥) → get_or (four_stored l a b c d x y z w) m 0 ≡ get_or l m 0
  elsewhere m na nb nc nd =
      get_or-set_other (set two c z) d m w 0 nd ∙ get_or-set_other two c m z 0 nc ∙ get_or-set_other (set l a x) b m y 0 nb ∙ get_or-set_other l a m x 0 na

  pub first_store : a < length l → (a ≡ b → ⊥) → (a ≡ c → ⊥) → (a ≡ d → ⊥) → get_or (four_stored l a b c d x y z w) a 0 ≡ x
  first_store h nb nc nd =
      get_or-set_other (set two c z) d a w 0 nd ∙ get_or-set_other two c a z 0 nc ∙ get_or-set_other (set l a x) b a y 0 nb ∙ get_or-set_same l a x 0 h

  pub second_store : b < length l → (b ≡ c → ⊥) → (b ≡ d → ⊥) → get_or (four_stored l a b c d x y z w) b 0 ≡ y
  second_store h nc nd =
      get_or-set_other (set two c z) d b w 0 nd ∙ get_or-set_other two c b z 0 nc ∙ get_or-set_same (set l a x) b y 0 (lt-length-set l a x h)

  pub third_store : c < length l → (c ≡ d → ⊥) → get_or (four_stored l a b c d x y z w) c 0 ≡ z
  third_store h nd =
      get_or-set_other (set two c z) d c w 0 nd ∙ get_or-set_same two c z 0 (lt-length-set (set l a x) b y (lt-length-set l a x h))

  pub fourth_store : d < length l → get_or (four_stored l a b c d x y z w) d 0 ≡ w
  fourth_store h = get_or-set_same (set two c z) d w 0 (lt-length-set two c z (lt-length-set (set l a x) b y (lt-length-set l a x h)))
