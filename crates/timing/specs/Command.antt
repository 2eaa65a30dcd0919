-- RP2350 datasheet, HSTX command expander: what a list of words in the FIFO puts on the wire. Bits 15..12 of a command word are the command, bits 11..0
-- its count. Command 0 sends the next `count` words as they stand, command 1 sends the next word `count` times.
use Rattle.std.specs.Prelude.{Bool, cond, ◌&&◌, List, [], ◌∷◌, ◌++◌, ℕ, zero, suc, ◌+◌, ◌*◌, ◌/◌, ◌%◌, ◌^◌, eqb, leb, length, replicate, Result, Ok, Err}
use Rattle.refusal.specs.declared.Refusal.TheVariants.{Unlisted}
use Rattle.refusal.specs.declared.Refusal.{Refusal}
use Rattle.timing.specs.declared.Command.{Command}
use Rattle.timing.specs.declared.Command.TheVariants.{Raw, Repeat}
use Rattle.refusal.specs.Verdict.{Ask, ask, verdict, answered}

-- the command word with this command and count
abbrev pub command : ℕ → ℕ → ℕ
command c count = count + c * 2 ^ 12

abbrev pub raw_word : ℕ → ℕ
raw_word count = command 0 count

abbrev pub repeat_word : ℕ → ℕ
repeat_word count = command 1 count

-- of the two commands that are used: as the words stand, and one word repeated
abbrev pub command_number : Command → ℕ
command_number Raw = 0
command_number Repeat = 1

-- a listed count: what the twelve bits hold, but for 0
abbrev pub countable : ℕ → Bool
countable count = leb 1 count && leb count 4095

abbrev pub command_asks : ℕ → List Ask
command_asks count = ask (countable count) Unlisted ∷ []

-- what a command helper answers: its word, or the refusal of its count
abbrev pub command_of : ℕ → ℕ → Result ℕ Refusal
command_of c count = answered (verdict (command_asks count)) (Ok (command c count)) Err

-- ---- the expander at work

-- what it does with the next word: so many words pass as they stand before the next command word, or it repeats the next word so often. Of other
-- commands, and of a count of 0, nothing is said, for none is ever written here.
pub data Mode : Type 0 where
  passing : ℕ → Mode
  repeating : ℕ → Mode
  unsaid : Mode

abbrev pub started : ℕ → Mode
started w =
    cond (eqb (w % 2 ^ 12) 0) unsaid
    (cond (eqb (w / 2 ^ 12 % 2 ^ 4) 0) (passing (w % 2 ^ 12))
    (cond (eqb (w / 2 ^ 12 % 2 ^ 4) 1) (repeating (w % 2 ^ 12)) unsaid))

abbrev pub expand_in : Mode → List ℕ → List ℕ
expand_in m [] = []
expand_in (passing zero) (w ∷ ws) = expand_in (started w) ws
expand_in (passing (suc n)) (w ∷ ws) = w ∷ expand_in (passing n) ws
expand_in (repeating n) (w ∷ ws) = replicate n w ++ expand_in (passing 0) ws
expand_in unsaid (w ∷ ws) = []

-- the words on the wire
abbrev pub expand : List ℕ → List ℕ
expand = expand_in (passing 0)

-- ---- a line as the sends it is made of

-- words sent as they stand, or one word so many times
pub data Send : Type 0 where
  raw : List ℕ → Send
  repeat : ℕ → ℕ → Send

-- the FIFO words that ask for these sends
abbrev pub commanded : List Send → List ℕ
commanded [] = []
commanded (raw ws ∷ ss) = raw_word (length ws) ∷ ws ++ commanded ss
commanded (repeat n w ∷ ss) = repeat_word n ∷ w ∷ commanded ss

-- and what goes out
abbrev pub sent : List Send → List ℕ
sent [] = []
sent (raw ws ∷ ss) = ws ++ sent ss
sent (repeat n w ∷ ss) = replicate n w ++ sent ss
