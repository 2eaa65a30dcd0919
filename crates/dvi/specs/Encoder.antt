-- DVI 1.0, section 3.3: the T.M.D.S. encoder, as the flow chart of figure 3-5 draws it. D is the byte of pixel data, q_m its intermediate of nine
-- bits, q_out the symbol of ten, Cnt the ones less the zeros sent so far. A bit is a Bool, and a list of bits has bit 0 first.
use Rattle.std.specs.Prelude.{Bool, true, false, not, cond, ◌&&◌, ◌||◌, List, [], ◌∷◌, ◌++◌, map, ℕ, zero, suc, ◌+◌, ◌*◌, ◌/◌, ◌%◌, ltb, eqb, get_or, ℤ, pos, negsuc, ◌+ℤ◌, ◌-ℤ◌}
use Rattle.std.specs.Int.Signed.{lt_z}

-- the k low bits of a number, and the number of a list of bits
abbrev pub bits_of : ℕ → ℕ → List Bool
bits_of zero n = []
bits_of (suc k) n = eqb (n % 2) 1 ∷ bits_of k (n / 2)

abbrev pub value_of : List Bool → ℕ
value_of [] = 0
value_of (true ∷ bs) = 1 + 2 * value_of bs
value_of (false ∷ bs) = 2 * value_of bs

-- N1{x} and N0{x}: the ones and the zeros
abbrev pub N1 : List Bool → ℕ
N1 [] = 0
N1 (true ∷ bs) = suc (N1 bs)
N1 (false ∷ bs) = N1 bs

abbrev pub N0 : List Bool → ℕ
N0 bs = N1 (map not bs)

abbrev pub XOR : Bool → Bool → Bool
XOR true b = not b
XOR false b = b

abbrev pub XNOR : Bool → Bool → Bool
XNOR a b = not (XOR a b)

-- D[0]
abbrev pub lowest : List Bool → Bool
lowest [] = false
lowest (b ∷ bs) = b

-- q_m[i] = q_m[i-1] op D[i], from i = 1 on
abbrev pub chained : (Bool → Bool → Bool) → Bool → List Bool → List Bool
chained op q [] = []
chained op q (d ∷ ds) = op q d ∷ chained op (op q d) ds

-- with q_m[0] = D[0]
abbrev pub minimized : (Bool → Bool → Bool) → List Bool → List Bool
minimized op [] = []
minimized op (d ∷ ds) = d ∷ chained op d ds

-- the chart's first question: N1{D} > 4, or N1{D} = 4 and D[0] = 0
abbrev pub takes_xnor : List Bool → Bool
takes_xnor D = ltb 4 (N1 D) || (eqb (N1 D) 4 && not (lowest D))

-- q_m[0:7] and q_m[8]
abbrev pub qm_low : List Bool → List Bool
qm_low D = cond (takes_xnor D) (minimized XNOR D) (minimized XOR D)

abbrev pub qm8 : List Bool → Bool
qm8 D = not (takes_xnor D)

-- q_out, and Cnt after it
pub record Sent : Type 0 where
  pub qout : List Bool
  pub Cnt : ℤ

-- q_out from its low eight bits, q_out[8] and q_out[9]
abbrev pub sent : List Bool → Bool → Bool → ℤ → Sent
sent low bit8 bit9 count = record { qout = low ++ (bit8 ∷ bit9 ∷ []); Cnt = count }

-- Cnt(t-1) = 0
abbrev pub is_zero : ℤ → Bool
is_zero (pos n) = eqb n 0
is_zero (negsuc n) = false

-- 2 times a bit
abbrev pub twice : Bool → ℤ
twice true = pos 2
twice false = pos 0

-- the chart below q_m, from Cnt(t-1), q_m[8] and q_m[0:7]
abbrev pub branches : ℤ → Bool → List Bool → Sent
branches Cnt q8 q =
    cond (is_zero Cnt || eqb (N1 q) (N0 q))
    (cond q8
    (sent q q8 (not q8) (Cnt +ℤ (pos (N1 q) -ℤ pos (N0 q))))
    (sent (map not q) q8 (not q8) (Cnt +ℤ (pos (N0 q) -ℤ pos (N1 q)))))
    (cond ((lt_z (pos 0) Cnt && ltb (N0 q) (N1 q)) || (lt_z Cnt (pos 0) && ltb (N1 q) (N0 q)))
    (sent (map not q) q8 true (Cnt +ℤ twice q8 +ℤ (pos (N0 q) -ℤ pos (N1 q))))
    (sent q q8 false (Cnt -ℤ twice (not q8) +ℤ (pos (N1 q) -ℤ pos (N0 q)))))

-- the encoder: what is sent for the byte, from Cnt(t-1)
abbrev pub encoder : ℤ → ℕ → Sent
encoder Cnt byte = branches Cnt (qm8 (bits_of 8 byte)) (qm_low (bits_of 8 byte))

-- q_out[9] for a q_m given as a number of nine bits: whether the low eight bits are sent complemented
unfoldable pub complemented : ℤ → ℕ → Bool
complemented Cnt qm = get_or (branches Cnt (eqb (qm / 256 % 2) 1) (bits_of 8 qm)).qout 9 false

-- q_m as a number of nine bits
unfoldable pub qm_of : ℕ → ℕ
qm_of byte = value_of (qm_low (bits_of 8 byte) ++ (qm8 (bits_of 8 byte) ∷ []))
