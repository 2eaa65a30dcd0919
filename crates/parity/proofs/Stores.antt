-- Five parity bytes, stored one after the other, seal the packet.
use mathlib.Core.Path.{◌≡◌, refl}
use mathlib.Core.List.{List}
use Prim.Native.Nat.{ℕ, ◌-◌}
use lib.ListN.{length, take, drop, set}
use Rattle.laws.proofs.Spines.{on_spine}
use Rattle.hdmi.specs.Parity.{parity, with_parity}
use Rattle.hdmi.specs.Packet.{packet_of, sealed}

-- the parity byte of the bytes from start on, stored at end, behind them
abbrev pub stored : ℕ → ℕ → List ℕ → List ℕ
stored start end p = set p end (parity (take (end - start) (drop start p)))

pub stored_sealed : (p : List ℕ) → length p ≡ 36 → stored 28 35 (stored 20 27 (stored 12 19 (stored 4 11 (stored 0 3 p)))) ≡ sealed p
unfolding packet_of with_parity
stored_sealed p e = on_spine 36 (λ p. stored 28 35 (stored 20 27 (stored 12 19 (stored 4 11 (stored 0 3 p)))) ≡ sealed p) p e refl
