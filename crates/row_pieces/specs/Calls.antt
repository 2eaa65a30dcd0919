-- Calls of an entry one after the other: each with a piece of a row, with a buffer that is lent for it holding whatever it holds, and with what the
-- last call handed back.
use Rattle.std.specs.Prelude.{List, [], ◌∷◌, ◌++◌, ℕ}

-- what one call takes: a piece of the row, and the buffer lent for it
pub record Piece : Type 0 where
  pub part : List ℕ
  pub room : List ℕ

-- the uncut row
abbrev pub joined : List Piece → List ℕ
joined [] = []
joined (p ∷ ps) = p.part ++ joined ps

-- what is asked of a piece, of each
abbrev pub Each : (Piece → Type 0) → List Piece → Type 0
Each Fits [] = Unit {0}
Each Fits (p ∷ ps) = Fits p × Each Fits ps

-- `Calls Answers leaves d ps ls e`: from d on every call was answered, the buffers joined hold ls, and the last call handed back e.
-- Here `Answers d p e` says that the call from d with p is answered and hands back e, and `leaves d p` is what its buffer holds then.
pub data Calls {S : Type 0} (Answers : S → Piece → S → Type 0) (leaves : S → Piece → List ℕ) : S → List Piece → List ℕ → S → Type 0 where
  none : {d : S} → Calls Answers leaves d [] [] d
  call : {d e f : S} {p : Piece} {ps : List Piece} {ls : List ℕ}
      → Answers d p e → Calls Answers leaves e ps ls f → Calls Answers leaves d (p ∷ ps) (leaves d p ++ ls) f
