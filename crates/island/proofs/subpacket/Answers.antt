-- `island::subpacket` meets its contract.
use mathlib.Core.Path.{subst, sym, ◌∙◌}
use mathlib.Core.List.{List}
use Prim.Native.Nat.{ℕ, ◌+◌, ◌-◌, ◌*◌}
use native.Mathlib.Omega.{arith}
use lib.ListN.{drop}
use Rattle.std.proofs.lemmas.List.{take-take}
use Rattle.island.specs.Words.{Subpacket}
use Rattle.island.proofs.Characters.{subpacket_of}
use Rattle.island.proofs.subpacket.Goals as goal

pub returns : goal.returns
returns c =
    let p : List ℕ = c.args.packet.now in
    let s : ℕ = c.args.s in
    let at : ℕ = 4 + 8 * s in
    let chunk = rw c.unwrap.ensures at c.first_chunk.ensures.cases in
    let bytes = chunk.same ∙ take-take 8 (36 - at) (drop at p) (omega arith) in
    subst (Subpacket p s) (sym c.from_le_bytes.ensures) (subpacket_of p c.unwrap.result.now s c.fits-packet bytes)
