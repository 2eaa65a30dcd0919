-- Reading a symbol has one answer, and it undoes encoding.
use mathlib.Core.Path.{◌≡◌, refl, sym, ap, ◌∙◌}
use Prim.Native.Nat.{ℕ, ◌<◌}
use lib.Dec.{T}
use lib.IntN.{ℤ}
use Rattle.refusal.specs.declared.Refusal.{Refusal}
use Rattle.std.specs.Prelude.{Result, Ok, Err}
use Rattle.dvi.specs.Symbol.{in_range, symbol_of}
use Rattle.dvi.proofs.Decoding.{one_byte}
use Rattle.symbol.specs.Read.{Reads}

pub one_answer : (s : ℕ) (r q : Result ℕ Refusal) → Reads s r → Reads s q → r ≡ q
one_answer s (Ok b) (Ok c) p q = ap Ok (one_byte p.1 q.1)
one_answer s (Ok b) (Err r) p q = absurd (q.1 (b, p.0, p.1))
one_answer s (Err r) (Ok b) p q = absurd (p.1 (b, q.0, q.1))
one_answer s (Err r) (Err t) p q = ap Err (p.0 ∙ sym q.0)

-- so the answer to a symbol that was encoded is its byte
pub reads_back : (d : ℤ) → T (in_range d) → (b : ℕ) → b < 256 → (r : Result ℕ Refusal) → Reads (symbol_of d b) r → r ≡ Ok b
reads_back d h b l r p =
    let q : Reads (symbol_of d b) (Ok b) = (d, record { range = h; byte = l; gives = refl }) in
    one_answer (symbol_of d b) r (Ok b) p q
