-- Two's complement: a number and its bits tell each other.
use mathlib.Core.Path.{◌≡◌, refl, ap}
use mathlib.Core.Bool.{Bool, true, false, cond}
use Prim.Native.Nat.{ℕ, suc, ◌+◌, ◌-◌, ◌^◌, ◌≤◌, ◌<◌}
use native.Mathlib.Omega.{arith}
use borrow.Author.Tests.{lt-ltb, le-ltb}
use lib.Dec.{ltb}
use lib.IntN.{ℤ, pos, negsuc}
use lib.Signed.{mag}
use Rattle.crossing.specs.Signed.{signed, bits_of}

-- ---- either way undoes the other

either : (b : Bool) (w x : ℕ) → x < 2 ^ w → bits_of w (cond b (pos x) (negsuc (2 ^ w - suc x))) ≡ x
either true w x h = refl
either false w x h = omega arith

-- a number's bits are those that it was made of, so no two bits make the same number
pub bits_back : (w x : ℕ) → x < 2 ^ w → bits_of w (signed w x) ≡ x
bits_back w x h = either (ltb x (2 ^ (w - 1))) w x h

-- and every number that w bits hold is made of its own
pub signed_back : (w : ℕ) (z : ℤ) → 2 ^ w ≡ 2 ^ (w - 1) + 2 ^ (w - 1) → mag z < 2 ^ (w - 1) → signed w (bits_of w z) ≡ z
signed_back w (pos n) e h = rw (lt-ltb n (2 ^ (w - 1)) h) refl
signed_back w (negsuc n) e h =
    let top : 2 ^ (w - 1) ≤ 2 ^ w - suc n = omega arith in
    let back : 2 ^ w - suc (2 ^ w - suc n) ≡ n = omega arith in
    rw (le-ltb (2 ^ w - suc n) (2 ^ (w - 1)) top) (ap negsuc back)
