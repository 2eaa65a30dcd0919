-- A packet laid down from its five words, whose parity bytes were found right: the words that are its island are an encoding.
use mathlib.Core.Path.{◌≡◌, refl}
use mathlib.Core.Bool.{Bool, true, ◌&&◌}
use mathlib.Core.List.{List, [], ◌∷◌, ◌++◌}
use Prim.Native.Nat.{ℕ, zero, suc, ◌/◌, ◌<◌}
use native.Mathlib.Omega.{arith}
use lib.Dec.{T}
use lib.ListN.{length, get_or}
use Rattle.laws.specs.Bytes.{low_first, bytes_of}
use Rattle.laws.proofs.Truth.{true_T, and_left, and_right}
use Rattle.hdmi.specs.Island.{island}
use Rattle.hdmi.specs.Packet.{subpacket, RightPacket}
use Rattle.hdmi.specs.Parity.{right}
use Rattle.island_reader.specs.Exact.{Encodes}
use Rattle.quick_reader.specs.Laid.{laid, right_word, right_blocks}

-- a list of bytes behind a word's, and a list of words' bytes
bytes_behind : (w x : ℕ) (l : List ℕ) → ((m : ℕ) → get_or l m 0 < 256) → (m : ℕ) → get_or (low_first w x ++ l) m 0 < 256
bytes_behind zero x l h m = h m
bytes_behind (suc w) x l h zero = omega arith
bytes_behind (suc w) x l h (suc m) = bytes_behind w (x / 256) l h m

all_bytes : (ws : List ℕ) (m : ℕ) → get_or (bytes_of 8 ws) m 0 < 256
all_bytes [] m = omega arith
all_bytes (x ∷ ws) m = bytes_behind 8 x (bytes_of 8 ws) (all_bytes ws) m

pub laid_bytes : (h : ℕ) (ws : List ℕ) (m : ℕ) → get_or (laid h ws) m 0 < 256
laid_bytes h ws = bytes_behind 4 h (bytes_of 8 ws) (all_bytes ws)

-- of four words
pub laid_right : (h : ℕ) (ws : List ℕ) → length ws ≡ 4 → right_blocks h ws ≡ true → RightPacket (laid h ws)
laid_right h (a ∷ b ∷ c ∷ d ∷ []) n e = record { size = refl; right_header = and_left head (word 0) t2; right_subpacket = at }
  where
    head : Bool
    head = right 3 (low_first 4 h)

    word : ℕ → Bool
    word s = right_word (a ∷ b ∷ c ∷ d ∷ []) s

    t4 : T (((head && word 0) && word 1) && word 2)
    t4 = and_left (((head && word 0) && word 1) && word 2) (word 3) (true_T e)

    t3 : T ((head && word 0) && word 1)
    t3 = and_left ((head && word 0) && word 1) (word 2) t4

    t2 : T (head && word 0)
    t2 = and_left (head && word 0) (word 1) t3

    at : (s : ℕ) → s < 4 → T (right 7 (subpacket s (laid h (a ∷ b ∷ c ∷ d ∷ []))))
    at zero l = and_right head (word 0) t2
    at (suc zero) l = and_right (head && word 0) (word 1) t3
    at (suc (suc zero)) l = and_right ((head && word 0) && word 1) (word 2) t4
    at (suc (suc (suc zero))) l = and_right (((head && word 0) && word 1) && word 2) (word 3) (true_T e)
    at (suc (suc (suc (suc s)))) l = absurd (omega arith)
laid_right h [] n e = absurd (omega arith)
laid_right h (a ∷ []) n e = absurd (omega arith)
laid_right h (a ∷ b ∷ []) n e = absurd (omega arith)
laid_right h (a ∷ b ∷ c ∷ []) n e = absurd (omega arith)
laid_right h (a ∷ b ∷ c ∷ d ∷ x ∷ ws) n e = absurd (omega arith)

pub encodes : (hv h : ℕ) (ps ws : List ℕ) → hv < 4 → length ps ≡ 4 → right_blocks h ps ≡ true → ws ≡ island hv (laid h ps) → Encodes hv (laid h ps) ws
encodes hv h ps ws pair n e same = record { pair = pair; right_packet = laid_right h ps n e; bytes = laid_bytes h ps; same = same }
