-- The header's word, at each number of frames and each mark, has the header's bytes.
use mathlib.Core.Path.{◌≡◌, refl, ap₂, sym, ◌∙◌}
use mathlib.Core.List.{List, [], ◌∷◌}
use Prim.Native.Nat.{ℕ, ◌+◌, ◌-◌, ◌*◌, ◌/◌, ◌%◌, ◌^◌, ◌<◌}
use native.Mathlib.Omega.{arith}
use lib.ListN.{get_or}
use lib.Seq.{ext_get_or}
use Rattle.laws.specs.Bytes.{low_first}
use Rattle.laws.proofs.Finite.{agreed}
use Rattle.hdmi.specs.Parity.{parity, sent, with_parity}
use Rattle.hdmi.specs.Audio.{block_start}
use Rattle.audio_words.specs.Frames.{header_rule}

abbrev bytes : (n c : ℕ) → List ℕ
bytes n c = with_parity (2 ∷ (2 ^ n - 1) ∷ block_start n c ∷ [])

-- byte m % 4 of the header at m / 4
each_byte : (m : ℕ) → m < 100 → get_or (low_first 4 (header_rule (m / 4))) (m % 4) 0 ≡ get_or (bytes (m / 4 / 5) (m / 4 % 5)) (m % 4) 0
unfolding with_parity parity sent
each_byte = agreed (λ m. get_or (low_first 4 (header_rule (m / 4))) (m % 4) 0) (λ m. get_or (bytes (m / 4 / 5) (m / 4 % 5)) (m % 4) 0) 100 tt

same_byte : (x i : ℕ) → x < 25 → i < 4 → get_or (low_first 4 (header_rule x)) i 0 ≡ get_or (bytes (x / 5) (x % 5)) i 0
same_byte x i hx hi =
    let header : (4 * x + i) / 4 ≡ x = omega arith in
    let place : (4 * x + i) % 4 ≡ i = omega arith in
    ap₂ (λ (y j : ℕ). get_or (low_first 4 (header_rule y)) j 0) (sym header) (sym place)
    ∙ each_byte (4 * x + i) (omega arith)
    ∙ ap₂ (λ (y j : ℕ). get_or (bytes (y / 5) (y % 5)) j 0) header place

same_bytes : (x : ℕ) → x < 25 → low_first 4 (header_rule x) ≡ bytes (x / 5) (x % 5)
unfolding with_parity
same_bytes x h = ext_get_or 0 (low_first 4 (header_rule x)) (bytes (x / 5) (x % 5)) refl (λ i l. same_byte x i h l)

pub header_bytes : (n c : ℕ) → n < 5 → c < 5 → low_first 4 (header_rule (5 * n + c)) ≡ bytes n c
header_bytes n c hn hc =
    let frames : (5 * n + c) / 5 ≡ n = omega arith in
    let mark : (5 * n + c) % 5 ≡ c = omega arith in
    same_bytes (5 * n + c) (omega arith) ∙ ap₂ bytes frames mark
