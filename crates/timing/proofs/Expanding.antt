-- The expander undoes the command words: for counts that fit, what a line's words put on the wire is what its sends say.
use mathlib.Core.Path.{◌≡◌, refl, ap, ◌∙◌}
use mathlib.Core.Bool.{false, cond}
use mathlib.Core.List.{List, [], ◌∷◌, ◌++◌}
use Prim.Native.Nat.{ℕ, ◌/◌, ◌%◌, ◌^◌}
use native.Mathlib.Omega.{arith}
use lib.Dec.{eqb}
use borrow.Author.Tests.{ne_eqb}
use lib.ListN.{length, replicate}
use Rattle.timing.specs.Command.{raw_word, repeat_word, Mode, passing, repeating, unsaid, started, expand_in, expand, Send, raw, repeat, commanded, sent}
use Rattle.timing.proofs.Ranges.{Within}

-- each count is a listed one
abbrev pub Countable : List Send → Type 0
Countable [] = Unit {0}
Countable (raw ws ∷ ss) = Within 1 (length ws) × Countable ss
Countable (repeat n w ∷ ss) = Within 1 n × Countable ss

started_by : (w c n : ℕ) → w / 2 ^ 12 % 2 ^ 4 ≡ c → w % 2 ^ 12 ≡ n → eqb n 0 ≡ false
    → started w ≡ cond (eqb c 0) (passing n) (cond (eqb c 1) (repeating n) unsaid)
started_by w c n p q r = rw (p, q, r)

not_none : {n : ℕ} → Within 1 n → eqb n 0 ≡ false
not_none {n} h = ne_eqb n 0 (λ e. let l = h.least in omega arith)

pub started_raw : {n : ℕ} → Within 1 n → started (raw_word n) ≡ passing n
started_raw {n} h = let m = h.most in started_by (raw_word n) 0 n (omega arith) (omega arith) (not_none h)

pub started_repeat : {n : ℕ} → Within 1 n → started (repeat_word n) ≡ repeating n
started_repeat {n} h = let m = h.most in started_by (repeat_word n) 1 n (omega arith) (omega arith) (not_none h)

passed : (ws rest : List ℕ) → expand_in (passing (length ws)) (ws ++ rest) ≡ ws ++ expand rest
passed [] rest = refl
passed (w ∷ ws) rest = ap (λ (l : List ℕ). w ∷ l) (passed ws rest)

pub expands : (ss : List Send) → Countable ss → expand (commanded ss) ≡ sent ss
expands [] h = refl
expands (raw ws ∷ ss) h =
    ap (λ (m : Mode). expand_in m (ws ++ commanded ss)) (started_raw h.0)
    ∙ passed ws (commanded ss) ∙ ap (λ (l : List ℕ). ws ++ l) (expands ss h.1)
expands (repeat n w ∷ ss) h =
    ap (λ (m : Mode). expand_in m (w ∷ commanded ss)) (started_repeat h.0)
    ∙ ap (λ (l : List ℕ). replicate n w ++ l) (expands ss h.1)
