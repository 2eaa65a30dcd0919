-- The laws of the symbol that callers use: its range, the discrepancy after it, and that the plain words and the chart agree. Each is one test
-- computed at all 2,304 places of a byte and a discrepancy.
use mathlib.Core.Path.{◌≡◌, sym}
use mathlib.Core.Bool.{cond}
use Prim.Native.Nat.{ℕ, ◌<◌, ◌^◌}
use lib.Bits.{bit_xor}
use lib.Dec.{T, ltb, ltb→lt}
use lib.IntN.{ℤ, pos, ◌+ℤ◌, ◌-ℤ◌, ◌*ℤ◌}
use lib.Signed.{mag}
use mir.Syntax.{w32}
use mir.Val.{SFits}
use Rattle.laws.proofs.Finite.{agreed_tests, bounded}
use Rattle.laws.proofs.Integers.{each, over, over-number, over-integer, over-bound}
use Rattle.dvi.specs.Encoder.{bits_of, encoder, qm8, qm_of, complemented}
use Rattle.dvi.specs.Symbol.{in_range, symbol_of, next_of}
use Rattle.dvi.specs.Plain.{ones_of, takes_xor, plain_symbol, plain_next}

-- the test on bits 1..7 is the chart's on the whole byte
pub same_choice : (b : ℕ) → b < 256 → takes_xor b ≡ qm8 (bits_of 8 b)
same_choice b l = agreed_tests takes_xor (λ b. qm8 (bits_of 8 b)) 256 tt b l

pub qm_small : (b : ℕ) → b < 256 → qm_of b < 512
unfolding qm_of
qm_small b l = bounded qm_of 512 256 tt b l

-- a discrepancy in range fits the machine's 32 bits
pub range_fits : (d : ℤ) → T (in_range d) → SFits w32 d
range_fits d h = record { sfits = ltb→lt (mag d) (2 ^ 31) (each 3 4 (λ d. ltb (mag d) (2 ^ 31)) tt d h) }

module _ (d : ℤ) (h : T (in_range d)) (b : ℕ) (l : b < 256) where
  pub symbol_small : symbol_of d b < 1024
  unfolding symbol_of
  symbol_small = over-bound 3 4 256 d h b l symbol_of 1024 tt

  -- by way of q_m: as it stands, or with the low eight bits complemented and bit 9 set
  pub sent_qm : cond (complemented (pos 2 *ℤ d) (qm_of b)) (bit_xor (qm_of b) 0x2ff) (qm_of b) ≡ symbol_of d b
  unfolding qm_of complemented symbol_of
  sent_qm =
      over-number 3 4 256 d h b l (λ d b. cond (complemented (pos 2 *ℤ d) (qm_of b)) (bit_xor (qm_of b) 0x2ff) (qm_of b)) symbol_of tt

  pub stays : T (in_range (next_of d b))
  unfolding next_of
  stays = over 3 4 256 d h b l (λ d b. in_range (next_of d b)) tt

  -- nothing is lost by halving
  pub twice_next : pos 2 *ℤ next_of d b ≡ (encoder (pos 2 *ℤ d) b).Cnt
  unfolding next_of
  twice_next = over-integer 3 4 256 d h b l (λ d b. pos 2 *ℤ next_of d b) (λ d b. (encoder (pos 2 *ℤ d) b).Cnt) tt

  pub next_by_ones : next_of d b ≡ d +ℤ (pos (ones_of 10 (symbol_of d b)) -ℤ pos 5)
  unfolding symbol_of next_of
  next_by_ones = over-integer 3 4 256 d h b l next_of (λ d b. d +ℤ (pos (ones_of 10 (symbol_of d b)) -ℤ pos 5)) tt

  -- the plain words give the chart's symbol and the chart's count
  pub plain_symbol_lem : plain_symbol d b ≡ symbol_of d b
  unfolding symbol_of plain_symbol
  plain_symbol_lem = over-number 3 4 256 d h b l plain_symbol symbol_of tt

  pub plain_next_lem : plain_next d b ≡ next_of d b
  unfolding plain_next
  plain_next_lem = rw plain_symbol_lem (sym next_by_ones)
