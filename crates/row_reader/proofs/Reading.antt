-- What the reader's answers mean, as existence: a row is read exactly when each of its symbols is a data symbol, and the place of a refusal is the
-- lowest index of one that is none.
use mathlib.Core.Path.{◌≡◌, ◌∙◌}
use mathlib.Core.Bool.{true, false, not}
use mathlib.Core.List.{List}
use Prim.Native.Nat.{ℕ, ◌+◌, ◌≤◌, ◌<◌}
use native.Mathlib.Decide.{dec_le}
use native.Mathlib.Nat.{zero-add}
use native.Mathlib.Omega.{arith}
use borrow.Author.Tests.{eq-eqb, ne_eqb, not-true, not-false}
use lib.Dec.{T, eqb, eqb→eq}
use lib.IntN.{ℤ}
use lib.ListN.{length, get_or}
use Rattle.std.specs.Prelude.{Ok, Err}
use Rattle.laws.proofs.Searching.{before, found, none}
use Rattle.laws.proofs.Truth.{T_true, true_T}
use Rattle.dvi.specs.Decoder.{byte_of, is_data}
use Rattle.dvi.specs.Symbol.{Encodes, DataSymbol}
use Rattle.dvi.proofs.Decoding.{test_data, data_test, not_data}
use Rattle.refusal.specs.declared.Refusal.TheVariants.{Length, NotData}
use Rattle.refusal.specs.Verdict.{verdict, unless}
use Rattle.refusal.proofs.Verdicts.{holds_first, fine_rest}
use Rattle.row.specs.Answer.{lengths_fit}
use Rattle.row_reader.specs.Answer.{first_bad, read_row_asks}

module _ (ss : List ℕ) where
  data_at : (i : ℕ) → is_data (get_or ss i 0) ≡ true → (d : ℤ) × Encodes (get_or ss i 0) (byte_of (get_or ss i 0)) d
  data_at i e = test_data (get_or ss i 0) (true_T e)

  -- below the first bad index all are data symbols
  pub data_before_bad : (i : ℕ) → i < first_bad ss → (d : ℤ) × Encodes (get_or ss i 0) (byte_of (get_or ss i 0)) d
  data_before_bad i h =
      data_at i (not-false (is_data (get_or ss i 0)) (before (λ i. not (is_data (get_or ss i 0))) 0 (length ss) i (omega arith) h))

  -- and there, where it isn't the end, stands none
  pub bad_is_none : first_bad ss < length ss → DataSymbol (get_or ss (first_bad ss) 0) → ⊥
  bad_is_none h =
      not_data (not-true (is_data (get_or ss (first_bad ss) 0)) (found (λ i. not (is_data (get_or ss i 0))) 0 (length ss) (rw zero-add h)))

  -- so a row is answered exactly when its lengths fit and each symbol is a data symbol
  pub answered_reads : (room : ℕ) → verdict (read_row_asks ss room) ≡ Ok tt → (i : ℕ) → i < length ss → (d : ℤ) × Encodes (get_or ss i 0) (byte_of (get_or ss i 0)) d
  answered_reads room h i l =
      let u = fine_rest (lengths_fit (length ss) room) Length (unless (eqb (first_bad ss) (length ss)) (NotData (first_bad ss)) (Ok tt)) h in
      let e = eqb→eq (first_bad ss) (length ss) (holds_first (eqb (first_bad ss) (length ss)) (NotData (first_bad ss)) (Ok tt) u) in
      data_before_bad i (rw e l)

  pub data_answered : (room : ℕ) → T (lengths_fit (length ss) room) → ((i : ℕ) → i < length ss → DataSymbol (get_or ss i 0)) → verdict (read_row_asks ss room) ≡ Ok tt
  data_answered room t f =
      let passed : (i : ℕ) → 0 ≤ i → i < 0 + length ss → not (is_data (get_or ss i 0)) ≡ false =
      λ i l u. simp (T_true {b = is_data (get_or ss i 0)} (data_test (f i (omega arith)))) in
      let e : first_bad ss ≡ length ss = none (λ i. not (is_data (get_or ss i 0))) 0 (length ss) passed ∙ omega arith in
      simp (T_true {b = lengths_fit (length ss) room} t, eq-eqb _ _ e)

  -- where one is none, the refusal names the first
  pub none_refused : (room : ℕ) → T (lengths_fit (length ss) room) → (i : ℕ) → i < length ss → (DataSymbol (get_or ss i 0) → ⊥)
      → (verdict (read_row_asks ss room) ≡ Err (NotData (first_bad ss))) × (first_bad ss ≤ i)
  none_refused room t i l n =
      let le : first_bad ss ≤ i = not-later i l n in
      let ne : first_bad ss ≡ length ss → ⊥ = λ e. omega arith in
      (simp (T_true {b = lengths_fit (length ss) room} t, ne_eqb _ _ ne), le)
    where
      by : (i : ℕ) → (DataSymbol (get_or ss i 0) → ⊥) → Dec (first_bad ss ≤ i) → first_bad ss ≤ i
      by i n (yes h) = h
      by i n (no h) = let d = data_before_bad i (omega (arith, h)) in absurd (n (byte_of (get_or ss i 0), d.0, d.1))

      not-later : (i : ℕ) → i < length ss → (DataSymbol (get_or ss i 0) → ⊥) → first_bad ss ≤ i
      not-later i l n = by i n (dec_le (first_bad ss) i)
