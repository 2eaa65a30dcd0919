-- Each bound at its edge, as the answer says it.
use mathlib.Core.Path.{◌≡◌, refl}
use mathlib.Core.List.{List}
use Prim.Native.Nat.{ℕ}
use lib.IntN.{pos}
use lib.ListN.{replicate}
use Rattle.refusal.specs.declared.Refusal.TheVariants.{Length, SyncPair, Unlisted, NotTerc4}
use Rattle.refusal.specs.Verdict.{verdict}
use Rattle.hdmi.specs.Terc4.{terc4, terc4_number}
use Rattle.terc4.specs.Terc4.{symbol_answer, read_answer}
use Rattle.crossing.specs.declared.Answer.{Answer}
use Rattle.crossing.specs.Crossing.{given, refused, told}
use Rattle.c_island.specs.Asks.{encode_island_asks, read_island_of}
use Rattle.c_island.specs.Crossing.{terc4_symbol, terc4_read, island_read}

pub terc4-edges :
    (terc4_symbol (symbol_answer 15) ≡ given 0x2c3 (pos 0)) × (terc4_symbol (symbol_answer 16) ≡ refused Unlisted (pos 0))
    × (terc4_read (read_answer 0x2c3) ≡ given 15 (pos 0)) × (terc4_read (read_answer 0x2c2) ≡ refused (NotTerc4 0) (pos 0))
    × (terc4_read (read_answer 0x6c3) ≡ refused (NotTerc4 0) (pos 0))
unfolding terc4 terc4_number
terc4-edges = (refl, refl, refl, refl, refl)

abbrev bytes : ℕ → List ℕ
bytes n = replicate n 0

abbrev encoded : (hv packet words : ℕ) → Answer
encoded hv packet words = told (verdict (encode_island_asks hv (bytes packet) (bytes words)))

-- four bytes for each of 36 words, 36 bytes of a packet, a sync pair of 3; a wrong length is said first
pub encode-edges :
    (encoded 3 36 143 ≡ refused Length (pos 0)) × (encoded 3 36 144 ≡ given 0 (pos 0)) × (encoded 3 36 145 ≡ refused Length (pos 0))
    × (encoded 3 36 148 ≡ refused Length (pos 0)) × (encoded 3 35 144 ≡ refused Length (pos 0)) × (encoded 3 37 144 ≡ refused Length (pos 0))
    × (encoded 4 36 144 ≡ refused SyncPair (pos 0)) × (encoded 4 36 143 ≡ refused Length (pos 0))
encode-edges = (refl, refl, refl, refl, refl, refl, refl, refl)

abbrev read : (words packet : ℕ) → Answer
read words packet = island_read (read_island_of (bytes words) (bytes packet))

pub read-edges :
    (read 143 36 ≡ refused Length (pos 0)) × (read 145 36 ≡ refused Length (pos 0)) × (read 148 36 ≡ refused Length (pos 0))
    × (read 144 35 ≡ refused Length (pos 0)) × (read 144 37 ≡ refused Length (pos 0))
read-edges = (refl, refl, refl, refl, refl)
