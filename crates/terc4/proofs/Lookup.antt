-- Each table has its rule at every entry.
use mathlib.Core.Path.{◌≡◌, ap, ◌∙◌}
use mathlib.Core.List.{List}
use Prim.Native.Nat.{ℕ, ◌<◌}
use lib.ListN.{get_or}
use Rattle.laws.proofs.Tables.{made, made_at}
use Rattle.hdmi.specs.Terc4.{terc4, terc4_number}

entry : (rule : ℕ → ℕ) (size : ℕ) (t : List ℕ) (n : ℕ) → t ≡ made rule 0 size → n < size → get_or t n 0 ≡ rule n
entry rule size t n e h = ap (λ (l : List ℕ). get_or l n 0) e ∙ made_at rule size n h

pub symbol_at : (t : List ℕ) (n : ℕ) → t ≡ made terc4 0 16 → n < 16 → get_or t n 0 ≡ terc4 n
symbol_at = entry terc4 16

pub number_at : (t : List ℕ) (x : ℕ) → t ≡ made terc4_number 0 1024 → x < 1024 → get_or t x 0 ≡ terc4_number x
number_at = entry terc4_number 1024
