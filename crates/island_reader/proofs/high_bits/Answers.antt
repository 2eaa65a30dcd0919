-- `island_reader::high_bits` meets its contract.
use mathlib.Core.Path.{◌≡◌, sym, ap, ◌∙◌}
use mathlib.Core.Bool.{Bool, true, false, not}
use mathlib.Core.List.{List}
use Prim.Native.Nat.{ℕ, ◌/◌, ◌^◌}
use native.Mathlib.Omega.{arith}
use borrow.Author.Tests.{eq-eqb, ne_eqb, leb-true, leb-false}
use lib.Dec.{eqb, leb}
use lib.ListN.{get_or}
use Rattle.std.proofs.lemmas.List.Quantifiers.{position-Some}
use Rattle.refusal.specs.declared.Refusal.TheVariants.{HighBits}
use Rattle.island_reader.specs.Read.{high_bits}
use Rattle.island_reader.proofs.Nowhere.{refused_first, refused_none}
use Rattle.island_reader.proofs.Positions.{position-None}
use Rattle.island_reader.proofs.high_bits.Goals as goal

abbrev high : ℕ → Bool
high w = leb 0x40000000 w

is_high : (w : ℕ) → high w ≡ true → not (eqb (w / 2 ^ 30) 0) ≡ true
is_high w h = ap not (ne_eqb (w / 2 ^ 30) 0 (λ e. omega (arith, leb-true 0x40000000 w h)))

is_low : (w : ℕ) → high w ≡ false → not (eqb (w / 2 ^ 30) 0) ≡ false
is_low w h = ap not (eq-eqb (w / 2 ^ 30) 0 (omega (arith, leb-false 0x40000000 w h)))

pub returns-in-Some : goal.returns-in-Some
returns-in-Some c =
    let ws : List ℕ = c.args.words.now in
    let i : ℕ = c.in-Some.i in
    let at = position-Some high ws i 0 (sym c.first_high.ensures ∙ c.in-Some.is) in
    sym (refused_first (high_bits ws) 0 36 HighBits i (omega arith) (omega arith) (is_high (get_or ws i 0) at.1) (λ j l h. is_low (get_or ws j 0) (at.2 j h)))

pub returns-in-None : goal.returns-in-None
returns-in-None c =
    let ws : List ℕ = c.args.words.now in
    let none = position-None high ws (sym c.first_high.ensures ∙ c.in-None.is) in
    sym (refused_none (high_bits ws) 0 36 HighBits (λ j l h. is_low (get_or ws j 0) (none j (omega arith))))
