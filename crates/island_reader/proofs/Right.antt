-- Right parity, block by block.
use mathlib.Core.Path.{◌≡◌, ap, ◌∙◌}
use mathlib.Core.Bool.{Bool, true, not}
use mathlib.Core.List.{List, [], ◌∷◌}
use Prim.Native.Nat.{ℕ, ◌+◌, ◌-◌, ◌*◌, ◌<◌}
use native.Mathlib.Omega.{arith}
use lib.ListN.{length, take, drop, length-take, length-drop}
use Rattle.std.specs.Prelude.{Ok}
use Rattle.refusal.specs.declared.Refusal.TheVariants.{HeaderParity, SubpacketParity}
use Rattle.refusal.specs.Verdict.{ask, unless, verdict}
use Rattle.hdmi.specs.Parity.{right}
use Rattle.hdmi.specs.Packet.{header, subpacket}
use Rattle.island_reader.specs.Read.{nowhere, parity_asks}
use Rattle.island_reader.proofs.Chain.{first_passes}

abbrev pub wrong_block : List ℕ → ℕ → Bool
wrong_block p s = not (right 7 (subpacket s p))

pub header_passes : (p : List ℕ) → right 3 (header p) ≡ true → verdict (parity_asks p) ≡ verdict (nowhere (wrong_block p) 0 4 SubpacketParity ∷ [])
header_passes p e =
    first_passes (ask (right 3 (header p)) HeaderParity) (nowhere (wrong_block p) 0 4 SubpacketParity ∷ []) (ap (λ (t : Bool). unless t HeaderParity (Ok tt)) e)

-- a block as it is cut from the packet
pub block_right : (p : List ℕ) (s n : ℕ) → length p ≡ 36 → s < 4 → n ≡ 8
    → right (length (take n (drop (4 + 8 * s) p)) - 1) (take n (drop (4 + 8 * s) p)) ≡ right 7 (subpacket s p)
block_right p s n l h e =
    let block : ℕ → List ℕ = λ n. take n (drop (4 + 8 * s) p) in
    let long : length (block 8) ≡ 8 = simp (length-take, length-drop) (omega arith) in
    let seven : length (block 8) - 1 ≡ 7 = omega arith in
    ap (λ (n : ℕ). right (length (block n) - 1) (block n)) e ∙ ap (λ (m : ℕ). right m (block 8)) seven
