-- The place of a refused row is an index of at most 4,096 symbols, so the answer's 32 bits are all of it.
use mathlib.Core.Path.{◌≡◌}
use mathlib.Core.Bool.{Bool, true, false, not}
use mathlib.Core.List.{List}
use Prim.Native.Nat.{ℕ, ◌%◌, ◌^◌, ◌≤◌}
use native.Mathlib.Nat.{mod-eq_of_lt}
use native.Mathlib.Omega.{arith}
use lib.Dec.{T, leb, leb→le, eqb}
use lib.ListN.{length, get_or}
use Rattle.std.specs.Prelude.{Ok}
use Rattle.laws.proofs.Searching.{first_le}
use Rattle.laws.proofs.Truth.{and_left}
use Rattle.dvi.specs.Decoder.{is_data}
use Rattle.refusal.specs.declared.Refusal.TheVariants.{Length, NotData}
use Rattle.refusal.specs.Verdict.{unless, verdict, verdict_place}
use Rattle.row.specs.Answer.{lengths_fit}
use Rattle.row_reader.specs.Answer.{first_bad}
use Rattle.row_reader.specs.Wire.{symbols_in, read_bytes_asks}

asked : (even fits known : Bool) (n : ℕ) → (T fits → n ≤ 4096) → verdict_place (unless even Length (unless fits Length (unless known (NotData n) (Ok tt)))) ≤ 4096
asked true true true n h = omega arith
asked true true false n h = h tt
asked true false known n h = omega arith
asked false fits known n h = omega arith

pub row_place : (lent : List ℕ) (room : ℕ) → verdict_place (verdict (read_bytes_asks lent room)) ≤ 4096
row_place lent room =
    let ss : List ℕ = symbols_in lent in
    asked (eqb (length lent % 2) 0) (lengths_fit (length ss) room) (eqb (first_bad ss) (length ss)) (first_bad ss)
    (λ t.
    let l = first_le (λ i. not (is_data (get_or ss i 0))) 0 (length ss) in
    let m = leb→le (length ss) 4096 (and_left (leb (length ss) 4096) (eqb room (length ss)) t) in
    omega arith)

pub row_place_whole : (lent : List ℕ) (room : ℕ) → verdict_place (verdict (read_bytes_asks lent room)) % 2 ^ 32 ≡ verdict_place (verdict (read_bytes_asks lent room))
row_place_whole lent room = let h = row_place lent room in mod-eq_of_lt (omega arith)
