-- VGA's island lines with a packet of zeros, word for word.
use mathlib.Core.Path.{◌≡◌, refl}
use mathlib.Core.List.{◌∷◌, ◌++◌}
use lib.ListN.{drop, replicate}
use Rattle.laws.specs.Bit.{bit}
use Rattle.dvi.specs.Control.{control}
use Rattle.hdmi.specs.Island.{guard_word, header_bit, subpacket_bit, data_word, island_word, island}
use Rattle.hdmi.specs.Period.{control_word}
use Rattle.hdmi.specs.Terc4.{terc4}
use Rattle.timing.specs.Sync.{pair_for}
use Rattle.timing.specs.Timing.{vga}
use Rattle.line.specs.Line.{island_words}

-- all 56 on the front porch
pub vga_front_porch : island_words vga 0 (replicate 36 0)
    ≡ 0x1008 ∷ 0x354d52ab ∷ 0x1008 ∷ 0x0ab2aeab ∷ 0x24 ∷ replicate 2 0x1334cd63 ++ 0x29ca72e4 ∷ replicate 31 0x29ca719c
    ++ replicate 2 0x1334cd63 ++ 0x103c ∷ 0x354d5154 ∷ 0x1026 ∷ 0x354d52ab ∷ 0xa ∷ replicate 10 0x354d52ab
unfolding island_words island island_word data_word guard_word header_bit subpacket_bit bit terc4 control control_word pair_for
vga_front_porch = refl

-- the last ten on an active line
pub vga_active : drop 46 (island_words vga 3 (replicate 36 0)) ≡ replicate 8 0x3542aeab ++ replicate 2 0x2cc4cecc
unfolding island_words island control control_word pair_for
vga_active = refl
