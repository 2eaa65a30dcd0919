-- Each bound at its edge, as the answer says it.
use mathlib.Core.Path.{◌≡◌, refl}
use mathlib.Core.List.{List}
use Prim.Native.Nat.{ℕ}
use lib.ListN.{replicate}
use Rattle.refusal.specs.Verdict.{verdict}
use Rattle.blocks.specs.Asks.{packet_asks}
use Rattle.clock.specs.Asks.{clock_asks}
use Rattle.packet.specs.Asks.{avi_asks}
use Rattle.crossing.specs.Crossing.{told}

abbrev bytes : ℕ → List ℕ
bytes n = replicate n 0

abbrev clock : ℕ → ℕ → ℕ → ℕ
clock n cts m = (told (verdict (clock_asks (bytes n) cts m))).refusal

-- 36 bytes and no other number; 20 bits of CTS and of N; the length first
pub clock_edges : (clock 36 1048575 1048575 ≡ 0) × (clock 36 1048576 0 ≡ 6) × (clock 36 0 1048576 ≡ 6) × (clock 35 1048576 0 ≡ 1) × (clock 37 0 0 ≡ 1)
clock_edges = (refl, refl, refl, refl, refl)

abbrev info : ℕ → ℕ
info n = (told (verdict (packet_asks (bytes n)))).refusal

pub info_edges : (info 35 ≡ 1) × (info 36 ≡ 0) × (info 37 ≡ 1)
info_edges = (refl, refl, refl)

abbrev avi : ℕ → (s r v : ℕ) → ℕ
avi n s r v = (told (verdict (avi_asks (bytes n) s 0 0 0 r 0 v))).refusal

pub avi_edges : (avi 36 2 11 2 ≡ 0) × (avi 36 3 11 2 ≡ 4) × (avi 36 2 12 2 ≡ 4) × (avi 36 2 7 2 ≡ 4) × (avi 36 0 0 0 ≡ 4) × (avi 36 0 8 3 ≡ 4) × (avi 37 3 0 1 ≡ 1)
avi_edges = (refl, refl, refl, refl, refl, refl, refl)
