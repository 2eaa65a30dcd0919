-- What `seal` asks of the packet it is lent.
use Rattle.std.specs.Prelude.{List, [], ◌∷◌, ℕ, eqb, length}
use Rattle.refusal.specs.declared.Refusal.TheVariants.{Length}
use Rattle.refusal.specs.Verdict.{Ask, ask}

abbrev pub seal_asks : List ℕ → List Ask
seal_asks p = ask (eqb (length p) 36) Length ∷ []
