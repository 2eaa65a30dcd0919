-- `island::SyncPair::character` meets its contract.
use mathlib.Core.Path.{ap, ap₂, ◌∙◌}
use Prim.Native.Nat.{ℕ, ◌+◌, ◌*◌, ◌%◌, ◌<◌}
use native.Mathlib.Omega.{arith}
use lib.Bits.{bit_or}
use lib.ListN.{get_or}
use Rattle.laws.specs.Bit.{bit}
use Rattle.laws.proofs.Bits.{bit_lt}
use Rattle.hdmi.specs.Island.{marker}
use Rattle.hdmi.specs.Terc4.{terc4}
use Rattle.hdmi.proofs.Island.{marker_is}
use Rattle.hdmi.proofs.Terc4.{terc4_lt}
use Rattle.island.specs.Pairs.{evens, odds, two_lanes}
use Rattle.island.specs.Words.{word_from}
use Rattle.island.proofs.Characters.{or_lanes}
use Rattle.island.proofs.SyncPair.character.Goals as goal

pub returns : goal.returns
unfolding word_from two_lanes bit
returns c =
    let a = c.args in
    let n : ℕ = a.self.hv + 4 * bit a.j a.bits.header + marker (4 * a.i + a.j) in
    let x : ℕ = get_or a.bits.rows a.j 0 % 256 in
    let small : n < 16 = omega (arith, bit_lt a.j a.bits.header, marker_is (4 * a.i + a.j)) in
    let at = c.symbol-symbol.ensures ∙ ap terc4 (omega (arith, c.marker.ensures)) in
    ap₂ bit_or at c.two_lanes.ensures ∙ or_lanes (terc4 n) (terc4 (evens x)) (terc4 (odds x)) (terc4_lt n small)
