-- What a refused row hands back. (Its bounds at their edges: row/proofs/Edges.antt.)
use mathlib.Core.Path.{◌≡◌, refl}
use mathlib.Core.List.{[], ◌∷◌}
use lib.IntN.{ℤ, pos, negsuc}
use Rattle.dvi.specs.Decoder.{is_data, byte_of}
use Rattle.dvi.specs.Symbol.{symbol_of}
use Rattle.refusal.specs.declared.Refusal.TheVariants.{Length, Discrepancy, NotData}
use Rattle.refusal.specs.Verdict.{verdict}
use Rattle.row.specs.Wire.{encode_bytes_of}
use Rattle.row_reader.specs.Wire.{read_bytes_asks}
use Rattle.crossing.specs.Crossing.{given, refused, told}
use Rattle.c_row.specs.Crossing.{row_ended}

-- the discrepancy as it came, whatever it is
pub row_of_odd_bytes : (d : ℤ) → row_ended (encode_bytes_of d (0 ∷ []) 1) ≡ refused Length d
row_of_odd_bytes d = refl

pub row_from_five : (row_ended (encode_bytes_of (pos 5) (0 ∷ []) 2) ≡ refused Discrepancy (pos 5)) × (row_ended (encode_bytes_of (negsuc 4) (0 ∷ []) 2) ≡ refused Discrepancy (negsuc 4))
row_from_five = (refl, refl)

-- an empty row leaves the lane where it stood
pub row_of_none : row_ended (encode_bytes_of (negsuc 3) [] 0) ≡ given 0 (negsuc 3)
row_of_none = refl

-- the place of the first symbol that is none
pub row_with_control : told (verdict (read_bytes_asks (0x00 ∷ 0x01 ∷ 0x54 ∷ 0x03 ∷ []) 2)) ≡ refused (NotData 1) (pos 0)
unfolding is_data symbol_of byte_of
row_with_control = refl
