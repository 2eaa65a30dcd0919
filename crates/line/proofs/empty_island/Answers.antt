-- `line::empty_island` meets its contract: the table has the definition's words.
use mathlib.Core.Path.{ap, ◌∙◌}
use lib.ListN.{get_or, replicate}
use Rattle.laws.specs.Bit.{bit}
use Rattle.hdmi.specs.Island.{guard_word, header_bit, subpacket_bit, data_word}
use Rattle.hdmi.specs.Terc4.{terc4}
use Rattle.line.specs.declared.EmptyIsland.{EmptyIsland}
use Rattle.line.proofs.Stores.{empties, empty_made}
use Rattle.line.proofs.empty_island.Goals as goal

abbrev none : EmptyIsland
none = record { guard = 0; first = 0; later = 0 }

pub returns : goal.returns
unfolding data_word guard_word header_bit subpacket_bit bit terc4
returns c =
    let hv = c.args.hv in
    let filled = c.fill.ensures.after (λ y e. e) ∙ ap (λ n. replicate n (get_or empties c.from.result none).later) c.requires.1 in
    rw (filled, c.from.ensures) (empty_made hv none c.requires.0)
