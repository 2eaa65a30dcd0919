-- Each bound of the room at its edge: what is accepted last, and what is refused first.
use mathlib.Core.Path.{◌≡◌, refl}
use Prim.Native.Nat.{ℕ}
use lib.IntN.{pos, negsuc}
use Rattle.refusal.specs.Verdict.{handed_back}
use Rattle.std.specs.Prelude.{Ok, Err}
use Rattle.dvi.specs.Symbol.{symbol_of, next_of, DataSymbol}
use Rattle.dvi.specs.Decoder.{byte_of, is_data}
use Rattle.dvi.proofs.Decoding.{data_small}
use Rattle.refusal.specs.declared.Refusal.TheVariants.{Discrepancy, Unlisted}
use Rattle.symbol.specs.Encode.{encode_of}
use Rattle.symbol.specs.Pair.{join_of}
use native.Mathlib.Omega.{arith}

-- 4 and -4 are answered, whatever the byte; 5 and -5 are refused, and handed back
pub four_answered : (b : ℕ) → encode_of (pos 4) b ≡ Ok (record { sent = (record { 0 = symbol_of (pos 4) b }); discrepancy = (next_of (pos 4) b) })
four_answered b = refl

pub minus_four_answered : (b : ℕ) → encode_of (negsuc 3) b ≡ Ok (record { sent = (record { 0 = symbol_of (negsuc 3) b }); discrepancy = (next_of (negsuc 3) b) })
minus_four_answered b = refl

pub five_refused : (b : ℕ) → encode_of (pos 5) b ≡ Err (handed_back (pos 5) Discrepancy)
five_refused b = refl

pub minus_five_refused : (b : ℕ) → encode_of (negsuc 4) b ≡ Err (handed_back (negsuc 4) Discrepancy)
minus_five_refused b = refl

-- 1,023 is joined on either side, 1,024 on neither
pub joined_1023 : join_of 1023 1023 ≡ Ok (record { 0 = 0xfffff })
joined_1023 = refl

pub refused_1024_first : join_of 1024 1023 ≡ Err Unlisted
refused_1024_first = refl

pub refused_1024_second : join_of 1023 1024 ≡ Err Unlisted
refused_1024_second = refl

-- 0x3ff is a data symbol, and nothing above it is one
pub data_3ff : DataSymbol 0x3ff
unfolding symbol_of byte_of is_data
data_3ff = (0, negsuc 3, record { range = tt; byte = omega arith; gives = refl })

pub none_from_1024 : DataSymbol 1024 → ⊥
none_from_1024 p = let h = data_small p.2 in omega arith
