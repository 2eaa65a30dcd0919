-- What `encode` asks of its arguments.
use Rattle.std.specs.Prelude.{List, [], ◌∷◌, ℕ, eqb, ltb, length}
use Rattle.refusal.specs.declared.Refusal.TheVariants.{Length, SyncPair}
use Rattle.refusal.specs.Verdict.{Ask, ask}

abbrev pub encode_asks : ℕ → List ℕ → List ℕ → List Ask
encode_asks hv packet words = ask (eqb (length packet) 36) Length ∷ ask (eqb (length words) 36) Length ∷ ask (ltb hv 4) SyncPair ∷ []
