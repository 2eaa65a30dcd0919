-- An entry over words works in a scratch. What the lent bytes hold afterwards doesn't depend on what the scratch held before.
use mathlib.Core.Path.{◌≡◌, refl, ap, ap₂, ◌∙◌}
use mathlib.Core.Bool.{Bool, true, false}
use mathlib.Core.List.{List}
use Prim.Native.Nat.{ℕ}
use lib.ListN.{length}
use Rattle.std.specs.Prelude.{Ok, Err}
use Rattle.laws.specs.Bytes.{bytes_of}
use Rattle.refusal.specs.declared.Refusal.{Refusal}
use Rattle.refusal.specs.declared.Refusal.TheVariants.{Length}
use Rattle.refusal.specs.Verdict.{unless, kept, Verdict}
use Rattle.refusal.proofs.Verdicts.{holds_first}
use Rattle.laws.proofs.Truth.{T_true}
use Rattle.refusal.proofs.Upward.{never}
use Rattle.crossing.specs.declared.Answer.{Answer}
use Rattle.crossing.specs.Crossing.{told}
use Rattle.word_bytes.specs.Words.{four_each, words_first}

through : (fits : Bool) (r : Refusal) (v : Verdict) (f : List ℕ → List ℕ) (new scratch old : List ℕ)
    → kept (unless fits r v) (f (kept v new scratch)) old ≡ kept (unless fits r v) (f new) old
through true r (Ok _) f new scratch old = refl
through true r (Err k) f new scratch old = refl
through false r v f new scratch old = refl

lent_first : (fits : Bool) (r : Refusal) (v : Verdict) (f : List ℕ → List ℕ) (lent scratch old : List ℕ)
    → kept (unless fits r v) (f (kept (unless fits r (Ok tt)) lent scratch)) old ≡ kept (unless fits r v) (f lent) old
lent_first true r v f lent scratch old = refl
lent_first false r v f lent scratch old = refl

-- what `words_told` says and leaves, of an entry that told v and left the words `new` in the scratch where v is fine
pub crossed : (n : ℕ) (old : List ℕ) (v : Verdict) (new before scratch out : List ℕ) (told_of : Verdict) (r : Answer)
    → length scratch ≡ n → told_of ≡ v → scratch ≡ kept v new before
    → (r ≡ told (words_first (length scratch) old told_of)) × (out ≡ kept (words_first (length scratch) old told_of) (bytes_of 4 scratch) old)
    → (r ≡ told (words_first n old v)) × (out ≡ kept (words_first n old v) (bytes_of 4 new) old)
crossed n old v new before scratch out told_of r l e s h = (
  h.0 ∙ ap₂ (λ (k : ℕ) (w : Verdict). told (words_first k old w)) l e,
  h.1 ∙ ap₂ (λ (k : ℕ) (w : Verdict). kept (words_first k old w) (bytes_of 4 scratch) old) l e
      ∙ ap (λ (x : List ℕ). kept (words_first n old v) (bytes_of 4 x) old) s
      ∙ through (four_each (length old) n) Length v (bytes_of 4) new before old,
)

-- the same where the words are made from those that were lent, f of them
pub crossed_lent : (n : ℕ) (old : List ℕ) (v : Verdict) (f : List ℕ → List ℕ) (lent zeros before scratch out : List ℕ) (told_of : Verdict) (r : Answer)
    → length scratch ≡ n → told_of ≡ v → before ≡ kept (words_first n old (Ok tt)) lent zeros → scratch ≡ kept v (f before) before
    → (r ≡ told (words_first (length scratch) old told_of)) × (out ≡ kept (words_first (length scratch) old told_of) (bytes_of 4 scratch) old)
    → (r ≡ told (words_first n old v)) × (out ≡ kept (words_first n old v) (bytes_of 4 (f lent)) old)
crossed_lent n old v f lent zeros before scratch out told_of r l e b s h =
    let w = crossed n old v (f before) before scratch out told_of r l e s h in (
      w.0,
      w.1 ∙ ap (λ (x : List ℕ). kept (words_first n old v) (bytes_of 4 (f x)) old) b
          ∙ lent_first (four_each (length old) n) Length v (λ (x : List ℕ). bytes_of 4 (f x)) lent zeros old,
    )

-- the first question alone tells of the whole verdict: where it fails the rest isn't asked, where it holds the rest decides
pub rest_unasked : (fits : Bool) (r k : Refusal) (v : Verdict) → unless fits r (Ok tt) ≡ Err k → unless fits r v ≡ Err k
rest_unasked true r k v e = absurd (never refl e)
rest_unasked false r k v e = e

pub rest_decides : (fits : Bool) (r : Refusal) → unless fits r (Ok tt) ≡ Ok tt → fits ≡ true
rest_decides fits r e = T_true (holds_first fits r (Ok tt) e)
