-- A header and four words laid end to end: nothing of what stood there is left, and with right parity bytes they are the packet.
use mathlib.Core.Path.{◌≡◌, refl, sym, ap, ap₂, ◌∙◌}
use mathlib.Core.List.{List, [], ◌∷◌, ◌++◌, append_assoc, append-nil}
use Prim.Native.Nat.{ℕ, zero, suc, ◌+◌, ◌*◌, ◌/◌, ◌%◌, ◌^◌, ◌≤◌, ◌<◌}
use native.Mathlib.Nat.{pow-suc, div-div-eq-div-mul}
use native.Mathlib.Numerals.{add-one}
use native.Mathlib.Omega.{arith}
use lib.ListN.{length, length-append, get_or, take, replicate}
use lib.Seq.{take-suc, take_at, take_all, length-take-le}
use mir.Syntax.{Width, w64}
use Rattle.std.specs.Int.{byte_len, byte_at, bytes_low_first, to_le_bytes}
use Rattle.laws.specs.Bytes.{low_first, bytes_of}
use Rattle.laws.proofs.Bytes.{bytes_append}
use Rattle.laws.proofs.Spines.{on_spine}
use Rattle.hdmi.specs.Parity.{parity, sent, with_parity}
use Rattle.hdmi.specs.Packet.{packet_of}

-- ---- a word's bytes, as the library writes them

byte_is : (i n : ℕ) → byte_at i n ≡ n / 256 ^ i % 256
byte_is zero n = omega arith
byte_is (suc i) n = refl

bytes_are : (i k n : ℕ) → bytes_low_first i k n ≡ low_first k (n / 256 ^ i)
bytes_are i zero n = refl
bytes_are i (suc k) n =
    let next : n / 256 ^ suc i ≡ n / 256 ^ i / 256 = ap (λ (m : ℕ). n / m) (pow-suc 256 i) ∙ sym (div-div-eq-div-mul n (256 ^ i) 256) in
    ap₂ (λ (x : ℕ) (l : List ℕ). x ∷ l) (byte_is i n) (bytes_are (suc i) k n ∙ ap (low_first k) next)

pub to_le_bytes-low_first : (w : Width) (n : ℕ) → to_le_bytes w n ≡ low_first (byte_len w) n
to_le_bytes-low_first w n = bytes_are 0 (byte_len w) n ∙ ap (low_first (byte_len w)) (omega arith)

-- ---- a packet that is being laid

-- the header stands, and the first n subpackets behind it
abbrev pub Laid : (header subpackets : List ℕ) → ℕ → List ℕ → Type 0
Laid header subpackets n p = take (4 + 8 * n) p ≡ header ++ bytes_of 8 (take n subpackets)

module _ (header subpackets p : List ℕ) (n : ℕ) where
  pub laid_more : (block rest : List ℕ) → n < length subpackets → 4 + 8 * n ≤ length p → block ≡ to_le_bytes w64 (get_or subpackets n 0) → Laid header subpackets n p
      → Laid header subpackets (n + 1) (take (4 + 8 * n) p ++ block ++ rest)
  laid_more block rest l fits e h =
      let word : ℕ = get_or subpackets n 0 in
      let bytes : block ≡ low_first 8 word = e ∙ to_le_bytes-low_first w64 word in
      let long : length (take (4 + 8 * n) p ++ block) ≡ 4 + 8 * (n + 1) = simp length-append (omega (arith, ap length bytes, length-take-le (4 + 8 * n) p fits)) in
      take_at (take (4 + 8 * n) p ++ block) rest (4 + 8 * (n + 1)) long
      ∙ ap₂ (λ (a b : List ℕ). a ++ b) h (bytes ∙ sym (append-nil (low_first 8 word)))
      ∙ append_assoc header (bytes_of 8 (take n subpackets)) (bytes_of 8 (word ∷ []))
      ∙ ap (λ (l : List ℕ). header ++ l) (sym (bytes_append 8 (take n subpackets) (word ∷ [])) ∙ ap (bytes_of 8) (sym (rw add-one (take-suc subpackets n 0 l))))

  -- and nothing else
  pub laid_all : length p ≡ 36 → length subpackets ≡ 4 → 4 ≤ n → n ≤ 4 → Laid header subpackets n p → p ≡ header ++ bytes_of 8 subpackets
  laid_all e f l m h =
      sym (take_all (4 + 8 * n) p (omega arith)) ∙ h ∙ ap (λ (l : List ℕ). header ++ bytes_of 8 l) (take_all n subpackets (omega arith))

-- ---- what is laid

-- a header written out with its parity byte
pub header_with : (h : List ℕ) (v : ℕ) → parity h ≡ v → h ++ (v ∷ []) ≡ with_parity h
unfolding with_parity
header_with h v e = ap (λ (x : ℕ). h ++ (x ∷ [])) (sym e)

pub joined_packet : (h : List ℕ) (f : ℕ → List ℕ) {e a b c d : List ℕ} → e ≡ with_parity h
    → a ≡ with_parity (f 0) → b ≡ with_parity (f 1) → c ≡ with_parity (f 2) → d ≡ with_parity (f 3) → e ++ (a ++ (b ++ (c ++ d))) ≡ packet_of h f
unfolding packet_of
joined_packet h f ee ea eb ec ed = rw (ee, ea, eb, ec, ed)

-- the same of an array of subpackets
pub joined_words : (h : List ℕ) (f : ℕ → List ℕ) (head words : List ℕ) → head ≡ with_parity h → length words ≡ 4
    → ((s : ℕ) → s < 4 → low_first 8 (get_or words s 0) ≡ with_parity (f s)) → head ++ bytes_of 8 words ≡ packet_of h f
joined_words h f head words e l each =
    on_spine 4 (λ ws. head ++ bytes_of 8 ws ≡ packet_of h f) words l
    (joined_packet h f e (each 0 (omega arith)) (each 1 (omega arith)) (each 2 (omega arith)) (each 3 (omega arith)))

-- zeros have the parity byte 0
pub zero_block : replicate 8 0 ≡ with_parity (replicate 7 0)
unfolding with_parity parity sent
zero_block = refl
