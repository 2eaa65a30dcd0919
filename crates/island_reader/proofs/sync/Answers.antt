-- `island_reader::sync` meets its contract.
use mathlib.Core.Path.{◌≡◌, sym, ap, ◌∙◌}
use mathlib.Core.Bool.{true, false, not}
use mathlib.Core.List.{List}
use Prim.Native.Nat.{ℕ, ◌+◌, ◌-◌, ◌*◌, ◌/◌, ◌%◌}
use native.Mathlib.Omega.{arith}
use borrow.Author.Tests.{eq-eqb, ne_eqb}
use lib.ListN.{get_or}
use Rattle.refusal.specs.declared.Refusal.TheVariants.{SyncBits}
use Rattle.hdmi.specs.Island.{marker}
use Rattle.island_reader.specs.Numbers.{sync_unlike}
use Rattle.island_reader.proofs.Nibbles.{from_two}
use Rattle.island_reader.proofs.Nowhere.{refused_first, refused_none}
use Rattle.island_reader.proofs.sync.Goals as goal

-- the test at word 2 + k, from the number at k
module _ (hv : ℕ) (ns : List ℕ) (k : ℕ) where
  abbrev bits : ℕ → ℕ
  bits j = get_or ns j 0 % 4 + get_or ns j 0 % 16 / 8 * 8

  place : 2 + k - 2 ≡ k
  place = omega arith

  agrees : bits k ≡ hv + marker k → sync_unlike hv ns (2 + k) ≡ false
  agrees e = rw place (ap not (eq-eqb (bits k) (hv + marker k) e))

  differs : (bits k ≡ hv + marker k → ⊥) → sync_unlike hv ns (2 + k) ≡ true
  differs n = rw place (ap not (ne_eqb (bits k) (hv + marker k) n))

pub returns-then-n-want : goal.returns-then-n-want
returns-then-n-want c =
    let hv : ℕ = c.args.hv in
    let ns : List ℕ = c.args.found.now in
    let l = c.loop-k in
    let wrong = differs hv ns l.k (λ e. c.if-n-want.true (e ∙ sym l.invariant.0)) in
    sym (refused_first (sync_unlike hv ns) 2 32 SyncBits (2 + l.k) (omega arith) (omega arith) wrong (from_two (sync_unlike hv ns) l.k l.invariant.1))

pub returns : goal.returns
returns c =
    let hv : ℕ = c.args.hv in
    let ns : List ℕ = c.args.found.now in
    let l = c.loop-k in
    sym (refused_none (sync_unlike hv ns) 2 32 SyncBits (λ j a b. from_two (sync_unlike hv ns) l.k l.invariant.1 j a (omega arith)))
