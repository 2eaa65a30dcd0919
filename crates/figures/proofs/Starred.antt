-- The worked figures that are proved: one statement over one list.
use mathlib.Core.Path.{◌≡◌, refl}
use mathlib.Core.List.{List, [], ◌∷◌}
use Prim.Native.Nat.{ℕ}
use lib.IntN.{ℤ, pos, negsuc}
use Rattle.std.specs.Prelude.{Ok, Err}
use Rattle.dvi.specs.Symbol.{symbol_of, next_of}
use Rattle.dvi.specs.Decoder.{byte_of, is_data}
use Rattle.dvi.proofs.Decoding.{not_data}
use Rattle.hdmi.specs.Parity.{parity}
use Rattle.hdmi.proofs.Figures.{header_1_0_0}
use Rattle.refusal.specs.declared.Refusal.TheVariants.{NotData}
use Rattle.symbol.specs.Encode.{encode_of}
use Rattle.symbol.specs.Read.{Reads}

-- a byte at a discrepancy with its symbol and the discrepancy after it; a number that is refused as a data symbol; a block with its parity
pub data Figure : Type 0 where
  sends : ℤ → ℕ → ℕ → ℤ → Figure
  refuses : ℕ → Figure
  protects : List ℕ → ℕ → Figure

abbrev pub Holds : Figure → Type 0
Holds (sends d b s e) = encode_of d b ≡ Ok (record { sent = (record { 0 = s }); discrepancy = e })
Holds (refuses s) = Reads s (Err (NotData 0))
Holds (protects block p) = parity block ≡ p

abbrev pub AllHold : List Figure → Type 0
AllHold [] = Unit {0}
AllHold (f ∷ fs) = Holds f × AllHold fs

abbrev pub figures : List Figure
figures =
    sends (pos 0) 0x00 0x100 (negsuc 3)
    ∷ sends (negsuc 3) 0x00 0x3ff (pos 1)
    ∷ sends (pos 1) 0x00 0x100 (negsuc 2)
    ∷ sends (pos 0) 0x01 0x1ff (pos 4)
    ∷ sends (pos 0) 0xff 0x200 (negsuc 3)
    ∷ sends (pos 4) 0xff 0x200 (pos 0)
    ∷ sends (negsuc 3) 0xff 0x0ff (negsuc 0)
    ∷ sends (pos 1) 0xfe 0x000 (negsuc 3)
    ∷ sends (pos 0) 0x10 0x1f0 (pos 0)
    ∷ sends (pos 1) 0xef 0x2f0 (pos 1)
    ∷ refuses 0x0f0
    ∷ refuses 0x354
    ∷ protects (1 ∷ 0 ∷ 0 ∷ []) 0x4a
    ∷ []

pub all_figures : AllHold figures
unfolding symbol_of next_of byte_of is_data
all_figures = (refl, (refl, (refl, (refl, (refl, (refl, (refl, (refl, (refl, (refl, ((refl, not_data refl), ((refl, not_data refl), (header_1_0_0, tt)))))))))))))
