-- How every entry says its outcome. An entry asks questions of its arguments, in the table's order. The first that fails is its refusal; where
-- none fails it answers. The answer, and what each lent buffer holds afterwards, both follow from that one verdict.
use Rattle.std.specs.Prelude.{Bool, true, false, ◌&&◌, List, [], ◌∷◌, ℕ, leb, Result, Ok, Err}
use Rattle.refusal.specs.declared.Refusal.{Refusal}
use Rattle.refusal.specs.declared.Refused.{Refused}
use Rattle.refusal.specs.Refusal.{number_of, place_of}

-- one question: whether it holds, and the refusal where it doesn't
pub record Ask : Type 0 where
  pub holds : Bool
  pub otherwise : Refusal

abbrev pub ask : Bool → Refusal → Ask
ask t r = record { holds = t; otherwise = r }

-- what an entry thinks of its arguments before it writes anything; also the whole answer of an entry that returns no value
abbrev pub Verdict : Type 0
Verdict = Result Unit Refusal

-- the refusal r unless the test holds; where it holds, what the rest say
abbrev pub unless : Bool → Refusal → Verdict → Verdict
unless true r rest = rest
unless false r rest = Err r

-- the verdict of an entry's questions: the first that fails
abbrev pub verdict : List Ask → Verdict
verdict [] = Ok tt
verdict (q ∷ qs) = unless q.holds q.otherwise (verdict qs)

-- two verdicts, the second asked for where the first is fine
abbrev pub and_then : Verdict → Verdict → Verdict
and_then (Ok _) v = v
and_then (Err r) v = Err r

-- the answer: the value where nothing was refused, else what hands the refusal on
abbrev pub answered : {A : Type 0} → Verdict → A → (Refusal → A) → A
answered (Ok _) value refuse = value
answered (Err r) value refuse = refuse r

-- a refusal, with what the caller lent by value as it came
abbrev pub handed_back : {A : Type 0} → A → Refusal → Refused A
handed_back a r = record { refusal = r; back = a }

-- what a lent buffer holds afterwards: the new contents, or on a refusal the old ones
abbrev pub kept : {A : Type 0} → Verdict → A → A → A
kept (Ok _) new old = new
kept (Err r) new old = old

-- the table's number and place of a verdict: 0 and 0 for none
abbrev pub verdict_number : Verdict → ℕ
verdict_number (Ok _) = 0
verdict_number (Err r) = number_of r

abbrev pub verdict_place : Verdict → ℕ
verdict_place (Ok _) = 0
verdict_place (Err r) = place_of r

-- the questions are asked in the table's order: no later one has a lower number
abbrev pub rising : List Ask → Bool
rising [] = true
rising (q ∷ []) = true
rising (q ∷ p ∷ qs) = leb (number_of q.otherwise) (number_of p.otherwise) && rising (p ∷ qs)
