-- `TmdsSymbol::read` answers the byte of a data symbol, and refuses what is none.
use mathlib.Core.Path.{refl, sym, ap, ◌∙◌}
use Prim.Native.Nat.{◌<◌}
use native.Mathlib.Nat.{mod-eq_of_lt}
use native.Mathlib.Omega.{arith}
use Rattle.laws.proofs.Truth.{true_T}
use Rattle.dvi.specs.Decoder.{byte_of}
use Rattle.dvi.proofs.Decoding.{data_small, not_data, test_data}
use Rattle.symbol.proofs.TmdsSymbol.read.Goals as goal
use Rattle.symbol.proofs.TmdsSymbol.read.Goals.{else-symbol-lt1024-via-then-symbol-lt1024+else-is_data, else-symbol-lt1024-via-else-symbol-lt1024}

pub returns-then-is_data : goal.returns-then-is_data
returns-then-is_data c =
    let s = c.args.self.0 in
    let p = test_data s (true_T (sym c.is_data.ensures ∙ c.if-is_data.true)) in
    let l : s < 1024 = omega arith in
    (p.0, rw (c.byte_of.ensures ∙ ap byte_of (mod-eq_of_lt l)) p.1)

pub returns-else-symbol-lt1024 : goal.returns-else-symbol-lt1024
returns-else-symbol-lt1024 c =
    elim c.else-symbol-lt1024.branch [
      | else-symbol-lt1024-via-then-symbol-lt1024+else-is_data w ↦ (refl, not_data (sym w.is_data.ensures ∙ w.if-is_data.false))
      | else-symbol-lt1024-via-else-symbol-lt1024 w ↦ (refl, λ p. let h = data_small p.2 in omega (arith, w.if-symbol-lt1024.false))
    ]
