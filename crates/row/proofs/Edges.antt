-- Each bound of the room at its edge: what is accepted last, and what is refused first.
use Rattle.std.specs.Prelude.{Ok, Err}
use Rattle.std.proofs.Common.{◌≡◌, ℕ, ℤ, pos, negsuc, refl}
use Rattle.refusal.specs.declared.Refusal.TheVariants.{Length, Discrepancy}
use Rattle.refusal.specs.Verdict.{verdict, Verdict}
use Rattle.row.specs.Answer.{encode_row_asks}
use Rattle.row.specs.Wire.{encode_bytes_asks}

-- 4,096 bytes are one piece, 4,097 are not
pub whole_piece : verdict (encode_row_asks (pos 0) 4096 4096) ≡ Ok tt
whole_piece = refl

pub too_long : verdict (encode_row_asks (pos 0) 4097 4097) ≡ Err Length
too_long = refl

-- an empty row is a row
pub empty_piece : verdict (encode_row_asks (pos 0) 0 0) ≡ Ok tt
empty_piece = refl

-- a buffer one short or one long is refused
pub room_short : verdict (encode_row_asks (pos 0) 4096 4095) ≡ Err Length
room_short = refl

pub room_long : verdict (encode_row_asks (pos 0) 4095 4096) ≡ Err Length
room_long = refl

-- 4 and -4 are answered, 5 and -5 are not; and a wrong length is said first
pub four_answered : verdict (encode_row_asks (pos 4) 1 1) ≡ Ok tt
four_answered = refl

pub minus_four_answered : verdict (encode_row_asks (negsuc 3) 1 1) ≡ Ok tt
minus_four_answered = refl

pub five_refused : verdict (encode_row_asks (pos 5) 1 1) ≡ Err Discrepancy
five_refused = refl

pub minus_five_refused : verdict (encode_row_asks (negsuc 4) 1 1) ≡ Err Discrepancy
minus_five_refused = refl

pub length_before_discrepancy : verdict (encode_row_asks (pos 5) 1 2) ≡ Err Length
length_before_discrepancy = refl

-- ---- the byte forms: two bytes a symbol

abbrev written : ℤ → ℕ → ℕ → Verdict
written d row room = verdict (encode_bytes_asks d row room)

-- as many bytes as two for each, and no other number near it, odd or even
pub bytes_fit : (written (pos 0) 4096 8192 ≡ Ok tt) × (written (pos 0) 0 0 ≡ Ok tt) × (written (pos 0) 4097 8194 ≡ Err Length)
bytes_fit = (refl, refl, refl)

pub bytes-beside :
    (written (pos 0) 4096 8190 ≡ Err Length) × (written (pos 0) 4096 8191 ≡ Err Length) × (written (pos 0) 4096 8193 ≡ Err Length)
    × (written (pos 0) 4095 8191 ≡ Err Length) × (written (pos 0) 4095 8192 ≡ Err Length) × (written (pos 0) 0 1 ≡ Err Length)
bytes-beside = (refl, refl, refl, refl, refl, refl)

pub bytes-discrepancy :
    (written (pos 4) 1 2 ≡ Ok tt) × (written (pos 5) 1 2 ≡ Err Discrepancy) × (written (negsuc 3) 1 2 ≡ Ok tt) × (written (negsuc 4) 1 2 ≡ Err Discrepancy)
    × (written (pos 5) 1 3 ≡ Err Length)
bytes-discrepancy = (refl, refl, refl, refl, refl)
