-- `data_bit` looks a symbol's bit up in the map, whose rule is computed once over it.
use mathlib.Core.Path.{◌≡◌, ap, ap₂, ◌∙◌}
use Prim.Native.Nat.{ℕ, ◌/◌, ◌%◌, ◌^◌}
use native.Mathlib.Omega.{arith}
use Rattle.laws.proofs.Tables.{made_at}
use Rattle.dvi.specs.Decoder.{byte_of, is_data}
use Rattle.dvi.specs.Symbol.{symbol_of}
use Rattle.charts.specs.Map.{map_of}
use Rattle.charts.proofs.Maps.{map_bit}
use Rattle.row_reader.proofs.data_bit.Goals as goal

-- the static's entry is the rule's
pub returns : goal.returns
unfolding is_data symbol_of byte_of
returns c =
    let s = c.args.symbol in
    let at : s / 32 % 32 ≡ s % 1024 / 32 = omega arith in
    let by : s % 32 ≡ s % 1024 % 32 = omega arith in
    ap₂ (λ (x k : ℕ). x / 2 ^ k % 2) (made_at map_of 32 (s / 32 % 32) (omega arith) ∙ ap map_of at) by ∙ map_bit (s % 1024)
