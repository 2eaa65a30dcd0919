-- What is asked of a packet that is lent.
use Rattle.std.specs.Prelude.{List, [], ◌∷◌, ℕ, eqb, length}
use Rattle.refusal.specs.declared.Refusal.TheVariants.{Length}
use Rattle.refusal.specs.Verdict.{Ask, ask}

-- it has its 36 bytes
abbrev pub packet_asks : List ℕ → List Ask
packet_asks p = ask (eqb (length p) 36) Length ∷ []
