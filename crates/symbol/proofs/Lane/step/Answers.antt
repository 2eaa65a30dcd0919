-- `Lane::step` sends DVI 1.0's symbol and leaves half of its count.
use mathlib.Core.Path.{◌≡◌, sym, ap, ap₂, ◌∙◌}
use Prim.Native.Nat.{ℕ, ◌<◌}
use native.Mathlib.Omega.{arith}
use lib.Count.{ones}
use lib.IntN.{ℤ, pos, ◌+ℤ◌, ◌-ℤ◌}
use Rattle.dvi.specs.Plain.{ones_of}
use Rattle.dvi.specs.Symbol.{symbol_of, next_of}
use Rattle.dvi.proofs.Symbols.{qm_small, sent_qm, symbol_small, next_by_ones}
use Rattle.symbol.specs.declared.Encoded.{Encoded}
use Rattle.symbol.specs.declared.TmdsSymbol.{TmdsSymbol}
use Rattle.charts.proofs.Counting.{count_ones, ones_small, less_five_fits, sum_fits, sum-read}
use Rattle.symbol.proofs.Lane.step.Goals as goal
use Rattle.symbol.proofs.Lane.step.Goals.{After-outgoing-symbol}

pub outgoing-symbol-requires : goal.outgoing-symbol-requires
outgoing-symbol-requires c =
    rw c.minimized.ensures (qm_small _ c.ranges.byte.fits)

is_symbol : (c : After-outgoing-symbol) → c.outgoing-symbol.result ≡ symbol_of c.args.self.discrepancy c.args.byte
is_symbol c =
    rw c.minimized.ensures at c.outgoing-symbol.ensures
    ∙ sent_qm _ c.args.self.in_range _ c.ranges.byte.fits

small : (c : After-outgoing-symbol) → c.outgoing-symbol.result < 1024
small c = rw (is_symbol c) (symbol_small _ c.args.self.in_range _ c.ranges.byte.fits)

few : (c : After-outgoing-symbol) → ones c.outgoing-symbol.result < 11
few c = ones_small _ (small c)

pub overflow_cast-result : goal.overflow_cast-result
overflow_cast-result c = let h = small (goal.at.overflow_cast-result c).After-outgoing-symbol in omega arith

pub overflow_cast-result-2 : goal.overflow_cast-result-2
overflow_cast-result-2 c = let h = few (goal.at.overflow_cast-result-2 c).After-outgoing-symbol in record { sfits = omega arith }

pub overflow_sub-result : goal.overflow_sub-result
overflow_sub-result c = less_five_fits _ (few (goal.at.overflow_sub-result c).After-outgoing-symbol)

pub overflow_add-result : goal.overflow_add-result
overflow_add-result c = sum_fits c.args.self.discrepancy c.args.self.in_range _ (few (goal.at.overflow_add-result c).After-outgoing-symbol)

pub returns : goal.returns
returns c =
    let d = c.args.self.discrepancy in
    let b = c.args.byte in
    let h = c.args.self.in_range in
    let o : ones c.outgoing-symbol.result ≡ ones_of 10 (symbol_of d b) = count_ones _ (small (goal.at.returns c).After-outgoing-symbol) ∙ ap (ones_of 10) (is_symbol (goal.at.returns c).After-outgoing-symbol) in
    let n : d +ℤ (pos (ones c.outgoing-symbol.result) -ℤ pos 5) ≡ next_of d b =
    ap (λ (n : ℕ). d +ℤ (pos n -ℤ pos 5)) o ∙ sym (next_by_ones d h b c.ranges.byte.fits) in
    ap₂ {C = Encoded TmdsSymbol} (λ (s : ℕ) (z : ℤ). record { sent = record { 0 = s }; discrepancy = z }) (is_symbol (goal.at.returns c).After-outgoing-symbol) (sum-read d h _ (few (goal.at.returns c).After-outgoing-symbol) ∙ n)
