-- The fields of the AVI info frame together: one that isn't listed is enough, and where all are listed each is.
use mathlib.Core.Path.{◌≡◌, refl, ap, ◌∙◌}
use mathlib.Core.Bool.{Bool, true, false, ◌&&◌}
use mathlib.Core.List.{List, [], ◌∷◌}
use Prim.Native.Nat.{ℕ, zero, suc}
use lib.ListN.{get_or}
use Rattle.std.specs.Prelude.{Result, Ok, Err, IsErrAnd}
use Rattle.refusal.specs.declared.Refusal.{Refusal}
use Rattle.refusal.specs.declared.Refusal.TheVariants.{Unlisted}
use Rattle.packet.specs.declared.AviFields.{AviFields}
use Rattle.packet.specs.Asks.{every, avi_tests}
use Rattle.packet.specs.AviFields.{avi_decided}

and_false : (t : Bool) → t && false ≡ false
and_false true = refl
and_false false = refl

pub one_fails : (ts : List Bool) (k : ℕ) → get_or ts k true ≡ false → every ts ≡ false
one_fails [] k h = h
one_fails (t ∷ ts) zero h = ap (λ (b : Bool). b && every ts) h
one_fails (t ∷ ts) (suc k) h = ap (λ (b : Bool). t && b) (one_fails ts k h) ∙ and_false t

-- the refusal of the k-th number, passed on
pub passed_on : (s y c m r q v k : ℕ) (d : Result AviFields Refusal) (e : Refusal) → IsErrAnd d (λ x. x ≡ e) → e ≡ Unlisted → get_or (avi_tests s y c m r q v) k true ≡ false
    → avi_decided s y c m r q v d
passed_on s y c m r q v k (Ok f) e h u t = absurd h
passed_on s y c m r q v k (Err x) e h u t = (one_fails (avi_tests s y c m r q v) k t, h ∙ u)
