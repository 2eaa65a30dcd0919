-- `island::SyncPair::guard` meets its contract.
use mathlib.Core.Path.{ap, ◌∙◌}
use Prim.Native.Nat.{ℕ, ◌+◌}
use native.Mathlib.Omega.{arith}
use lib.Bits.{bit_or}
use Rattle.hdmi.specs.Terc4.{terc4}
use Rattle.hdmi.specs.Island.{guard_word}
use Rattle.hdmi.proofs.Terc4.{terc4_lt}
use Rattle.island.proofs.Characters.{or_lanes}
use Rattle.island.proofs.SyncPair.guard.Goals as goal

pub returns : goal.returns
unfolding guard_word
returns c =
    let n : ℕ = 12 + c.args.self.hv in
    ap (λ (x : ℕ). bit_or x 0x1334cc00) (c.symbol.ensures ∙ ap terc4 (omega arith)) ∙ or_lanes (terc4 n) 0x133 0x133 (terc4_lt n (omega arith))
