-- Each bound of the reader at its edge: what is accepted last, and what is refused first.
use mathlib.Core.Path.{◌≡◌, refl}
use mathlib.Core.List.{List, [], ◌∷◌}
use Prim.Native.Nat.{ℕ, ◌/◌}
use lib.ListN.{length}
use Rattle.std.specs.Prelude.{Ok, Err}
use Rattle.laws.proofs.Bytes.{length_numbers}
use Rattle.dvi.specs.Decoder.{is_data, byte_of}
use Rattle.dvi.specs.Symbol.{symbol_of}
use Rattle.refusal.specs.declared.Refusal.TheVariants.{Length, NotData}
use Rattle.refusal.specs.Verdict.{verdict}
use Rattle.row_reader.specs.Wire.{read_bytes_asks}

-- of any bytes so many
module _ (lent : List ℕ) where
  pub read_odd : (room : ℕ) → length lent ≡ 8191 → verdict (read_bytes_asks lent room) ≡ Err Length
  read_odd room e = rw e

  pub read_short : length lent ≡ 8190 → verdict (read_bytes_asks lent 4096) ≡ Err Length
  read_short e = rw (length_numbers 2 (length lent / 2) lent, e)

  pub read_long : length lent ≡ 8192 → verdict (read_bytes_asks lent 4095) ≡ Err Length
  read_long e = rw (length_numbers 2 (length lent / 2) lent, e)

  pub read_too_long : length lent ≡ 8194 → verdict (read_bytes_asks lent 4097) ≡ Err Length
  read_too_long e = rw (length_numbers 2 (length lent / 2) lent, e)

-- 0x100 and 0x3ff are data symbols, 0x354 is none
pub read_data : verdict (read_bytes_asks (0x00 ∷ 0x01 ∷ 0xff ∷ 0x03 ∷ []) 2) ≡ Ok tt
unfolding is_data symbol_of byte_of
read_data = refl

pub read_no_data : verdict (read_bytes_asks (0x00 ∷ 0x01 ∷ 0x54 ∷ 0x03 ∷ []) 2) ≡ Err (NotData 1)
unfolding is_data symbol_of byte_of
read_no_data = refl
