-- The bits of a signed sample, and the frame of it that starts a block.
use mathlib.Core.Path.{◌≡◌, ap, ◌∙◌}
use Prim.Native.Nat.{◌<◌}
use native.Mathlib.Omega.{arith}
use lib.IntN.{ℤ, pos, negsuc}
use lib.Signed.{mag}
use mir.Syntax.{w16}
use mir.Val.{of_z, to_z}
use mir.Facts.{to_z-of_z}
use Rattle.hdmi.specs.Audio.{twos}

of_twos : (x : ℤ) → mag x < 32768 → of_z w16 x ≡ twos x
of_twos (pos n) h = omega arith
of_twos (negsuc n) h = omega arith

-- a sample that was read is the one that stood there, and its bits are these
pub bits_read : (x : ℤ) → mag x < 32768 → of_z w16 (to_z w16 (of_z w16 x)) ≡ twos x
bits_read x h = ap (of_z w16) (to_z-of_z {w = w16} {z = x} (record { sfits = h })) ∙ of_twos x h
