-- How an answer crosses to C: one record of four numbers.
use Rattle.refusal.specs.Verdict.{Verdict}
use Rattle.std.specs.Prelude.{ℕ, ◌%◌, ◌^◌, ℤ, pos, Result, Ok, Err}
use Rattle.refusal.specs.declared.Refusal.{Refusal}
use Rattle.refusal.specs.declared.Refused.{Refused}
use Rattle.refusal.specs.Refusal.{number_of, place_of}
use Rattle.crossing.specs.declared.Answer.{Answer}

-- nothing refused: the value, and what is carried on
abbrev pub given : ℕ → ℤ → Answer
given value carry = record { refusal = 0; place = 0; value = value; carry = carry }

-- refused: the table's number and place, and what was carried in. (A place is an index of a row or of an island, so its 32 bits are all of it.)
abbrev pub refused : Refusal → ℤ → Answer
refused r carry = record { refusal = number_of r; place = place_of r % 2 ^ 32; value = 0; carry = carry }

-- what crosses of an entry that carries nothing: the number of what it answers, or its refusal
abbrev pub answered_by : {A : Type 0} → (A → ℕ) → Result A Refusal → Answer
answered_by value (Ok a) = given (value a) (pos 0)
answered_by value (Err r) = refused r (pos 0)

-- and of one that carries: the number and the carry of what it answers, or its refusal and the carry of what it hands back
abbrev pub carried_by : {A B : Type 0} → (A → ℕ) → (A → ℤ) → (B → ℤ) → Result A (Refused B) → Answer
carried_by value carry back (Ok a) = given (value a) (carry a)
carried_by value carry back (Err e) = refused e.refusal (back e.back)

-- an entry that answers nothing but its verdict
abbrev pub told : Verdict → Answer
told = answered_by (λ _. 0)
