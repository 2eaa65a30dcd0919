-- An info frame from its parts: the block with the checksum, and three of zeros.
use mathlib.Core.Path.{◌≡◌, refl, ap, ◌∙◌}
use mathlib.Core.List.{List, [], ◌∷◌, ◌++◌}
use Prim.Native.Nat.{ℕ, ◌+◌, ◌-◌, ◌*◌, ◌%◌}
use native.Mathlib.Omega.{arith}
use lib.ListN.{length, replicate, take, drop, get_or}
use Rattle.laws.proofs.Spines.{spine, on_spine}
use Rattle.hdmi.specs.Parity.{parity, with_parity}
use Rattle.hdmi.specs.Info.{sum, info_bytes, info_frame}
use Rattle.blocks.proofs.Laying.{zero_block, header_with, joined_packet}

-- four data bytes behind their checksum, which the header's first three bytes enter
abbrev pub info_block : (kind version size a b c d : ℕ) → List ℕ
info_block kind version size a b c d = with_parity ((256 - (kind + version + size + a + b + c + d) % 256) % 256 ∷ a ∷ b ∷ c ∷ d ∷ 0 ∷ 0 ∷ [])

module _ (kind version size check a b c d : ℕ) where
  abbrev h : List ℕ
  h = kind ∷ version ∷ size ∷ []

  abbrev bytes : List ℕ
  bytes = a ∷ b ∷ c ∷ d ∷ []

  info_spelled : (block : List ℕ) → parity h ≡ check → block ≡ info_block kind version size a b c d
      → (h ++ (check ∷ [])) ++ (block ++ (replicate 8 0 ++ (replicate 8 0 ++ replicate 8 0))) ≡ info_frame h bytes
  unfolding info_frame
  info_spelled block eh eb =
      let total : kind + version + size + a + b + c + d ≡ sum (h ++ bytes) = omega arith in
      let first : block ≡ with_parity (take 7 (info_bytes h bytes)) = eb ∙ ap (λ (t : ℕ). with_parity ((256 - t % 256) % 256 ∷ a ∷ b ∷ c ∷ d ∷ 0 ∷ 0 ∷ [])) total in
      joined_packet h (λ s. take 7 (drop (7 * s) (info_bytes h bytes))) (header_with h check eh) first zero_block zero_block zero_block

pub info_joined : (h d block : List ℕ) → length h ≡ 4 → length d ≡ 4 → parity (take 3 h) ≡ get_or h 3 0
    → block ≡ info_block (get_or h 0 0) (get_or h 1 0) (get_or h 2 0) (get_or d 0 0) (get_or d 1 0) (get_or d 2 0) (get_or d 3 0)
    → h ++ (block ++ (replicate 8 0 ++ (replicate 8 0 ++ replicate 8 0))) ≡ info_frame (take 3 h) d
info_joined h d block lh ld =
    let joins : List ℕ → List ℕ → Type 0 =
    λ h d. parity (take 3 h) ≡ get_or h 3 0
    → block ≡ info_block (get_or h 0 0) (get_or h 1 0) (get_or h 2 0) (get_or d 0 0) (get_or d 1 0) (get_or d 2 0) (get_or d 3 0)
    → h ++ (block ++ (replicate 8 0 ++ (replicate 8 0 ++ replicate 8 0))) ≡ info_frame (take 3 h) d in
    on_spine 4 (λ h. joins h d) h lh (on_spine 4 (λ d. joins (spine 4 h) d) d ld
    (info_spelled (get_or h 0 0) (get_or h 1 0) (get_or h 2 0) (get_or h 3 0) (get_or d 0 0) (get_or d 1 0) (get_or d 2 0) (get_or d 3 0) block))

-- zeros behind the data bytes are there anyway
pub padded : (kind version size a b : ℕ) → info_frame (kind ∷ version ∷ size ∷ []) (a ∷ b ∷ 0 ∷ 0 ∷ []) ≡ info_frame (kind ∷ version ∷ size ∷ []) (a ∷ b ∷ [])
unfolding info_frame
padded kind version size a b = refl
