-- Each bound at its edge, as the answer says it; and that a symbol's answer is the only one.
use mathlib.Core.Path.{◌≡◌, refl, sym, ap, ◌∙◌}
use Prim.Native.Nat.{ℕ}
use lib.IntN.{pos, negsuc}
use Rattle.refusal.specs.declared.Refusal.{Refusal}
use Rattle.std.specs.Prelude.{Result}
use Rattle.refusal.specs.declared.Refusal.TheVariants.{Discrepancy, Unlisted}
use Rattle.symbol.specs.Encode.{encode_of}
use Rattle.symbol.specs.Pair.{join_of}
use Rattle.symbol.specs.Read.{Reads}
use Rattle.symbol.proofs.Reading.{one_answer}
use Rattle.crossing.specs.declared.Answer.{Answer}
use Rattle.crossing.specs.Crossing.{given, refused}
use Rattle.c_symbol.specs.Crossing.{encoded, read, joined}

-- a discrepancy of 5 or -5 is refused, and comes back as it went in
pub five : encoded (encode_of (pos 5) 0) ≡ refused Discrepancy (pos 5)
five = refl

pub minus_five : encoded (encode_of (negsuc 4) 0) ≡ refused Discrepancy (negsuc 4)
minus_five = refl

-- 4 and -4 aren't
pub four : (encoded (encode_of (pos 4) 0xff)).refusal ≡ 0
four = refl

pub minus_four : (encoded (encode_of (negsuc 3) 0)).refusal ≡ 0
minus_four = refl

-- a symbol to be joined has ten bits, in either place
pub ten_bits : joined (join_of 1023 1023) ≡ given 0xfffff (pos 0)
ten_bits = refl

pub eleven_bits : (joined (join_of 1024 0) ≡ refused Unlisted (pos 0)) × (joined (join_of 0 1024) ≡ refused Unlisted (pos 0))
eleven_bits = (refl, refl)

-- what is said of `read_symbol` leaves no choice
pub read_once : (s : ℕ) (r q : Answer) → ((a : Result ℕ Refusal) × (Reads s a × (r ≡ read a))) → ((b : Result ℕ Refusal) × (Reads s b × (q ≡ read b))) → r ≡ q
read_once s r q (a, p) (b, h) = p.1 ∙ ap read (one_answer s a b p.0 h.0) ∙ sym h.1
