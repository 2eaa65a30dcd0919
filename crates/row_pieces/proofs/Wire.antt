-- The same theorems over the calls in bytes alone: the buffers joined are the bytes of what DVI 1.0 gives the uncut row, and they are cut anew
-- between any two symbols.
use mathlib.Core.Path.{◌≡◌, refl, sym, ap, ◌∙◌}
use mathlib.Core.Bool.{true}
use mathlib.Core.List.{List, [], ◌∷◌, ◌++◌}
use Prim.Native.Nat.{ℕ, ◌+◌, ◌*◌, ◌/◌, ◌%◌, ◌≤◌}
use native.Mathlib.Omega.{arith}
use borrow.Author.Tests.{le-leb, eq-eqb}
use lib.Dec.{T, eqb}
use lib.IntN.{ℤ, pos, ◌*ℤ◌}
use lib.ListN.{length, take, drop, length-append}
use Rattle.std.specs.Prelude.{Ok}
use Rattle.laws.specs.Bytes.{Bytes, bytes_of, numbers_of}
use Rattle.laws.proofs.Bytes.{Fit, bytes_append, numbers_append, length_bytes, length_numbers, written_read}
use Rattle.laws.proofs.Truth.{T_true}
use Rattle.dvi.specs.Row.{dvi_row, dvi_cnt, row_symbols, row_end, row_ones}
use Rattle.dvi.specs.Symbol.{in_range, next_of}
use Rattle.dvi.proofs.Symbols.{symbol_small, stays}
use Rattle.refusal.specs.Verdict.{verdict}
use Rattle.row.specs.Answer.{lengths_fit}
use Rattle.row.specs.Wire.{encode_bytes_asks, encode_bytes_of, encode_bytes_out}
use Rattle.row_reader.specs.Wire.{symbols_in, read_bytes_asks, read_bytes_out}
use Rattle.row_pieces.specs.Calls.{Piece, joined, Each}
use Rattle.row_pieces.specs.Wire.{FitsOut, FitsIn, EncodedBytes, ReadBytes}
use Rattle.row_pieces.proofs.Calls as calls
use Rattle.row_pieces.proofs.Calls.{AllData, none_bad, Form}

-- ---- the symbols that the bytes hold

even_double : (n k : ℕ) → n ≡ 2 * k → eqb (n % 2) 0 ≡ true
even_double n k e = let h : n % 2 ≡ 0 = omega (arith, e) in eq-eqb (n % 2) 0 h

half_double : (n k : ℕ) → n ≡ 2 * k → n / 2 ≡ k
half_double n k e = omega (arith, e)

symbols_fit : (d : ℤ) (bs : List ℕ) → T (in_range d) → Bytes bs → Fit 2 (row_symbols d bs)
symbols_fit d [] h k = tt
symbols_fit d (b ∷ bs) h k =
    let l = symbol_small d h b k.0 in
    (omega arith, symbols_fit (next_of d b) bs (stays d h b k.0) k.1)

-- of the bytes of a row, the row
pub held_symbols : (d : ℤ) (bs : List ℕ) → T (in_range d) → Bytes bs → symbols_in (bytes_of 2 (row_symbols d bs)) ≡ row_symbols d bs
held_symbols d bs h k =
    let ss = row_symbols d bs in
    ap (λ (n : ℕ). numbers_of 2 n (bytes_of 2 ss)) (half_double (length (bytes_of 2 ss)) (length ss) (length_bytes 2 ss))
    ∙ written_read 2 ss (symbols_fit d bs h k)

-- cut between two symbols
pub symbols_cut : (q : Piece) → FitsIn q → (ys : List ℕ) → symbols_in (q.part ++ ys) ≡ symbols_in q.part ++ symbols_in ys
symbols_cut q f ys =
    let xs : List ℕ = q.part in
    let m : ℕ = length q.room in
    let n : length (xs ++ ys) / 2 ≡ m + length ys / 2 = ap (λ (k : ℕ). k / 2) (length-append xs ys) ∙ omega (arith, f.twice) in
    ap (λ (k : ℕ). numbers_of 2 k (xs ++ ys)) n
    ∙ numbers_append 2 m (length ys / 2) xs ys f.twice
    ∙ ap (λ (k : ℕ). numbers_of 2 k xs ++ symbols_in ys) (sym (half_double (length xs) m f.twice))

-- ---- one call

module _ (d : ℤ) (p : Piece) (h : T (in_range d)) (f : FitsOut p) where
  fit_out : lengths_fit (length p.part) (length p.room / 2) ≡ true
  fit_out = simp (le-leb _ _ f.short, eq-eqb _ _ (half_double (length p.room) (length p.part) f.twice))

  pub nothing_refused : verdict (encode_bytes_asks d (length p.part) (length p.room)) ≡ Ok tt
  nothing_refused = simp (even_double (length p.room) (length p.part) f.twice, fit_out, T_true {b = in_range d} h)

module _ (q : Piece) (f : FitsIn q) (a : AllData (symbols_in q.part)) where
  long_in : length (symbols_in q.part) ≡ length q.room
  long_in = length_numbers 2 (length q.part / 2) q.part ∙ half_double (length q.part) (length q.room) f.twice

  fit_in : lengths_fit (length (symbols_in q.part)) (length q.room) ≡ true
  fit_in = rw long_in (simp (le-leb _ _ f.short, eq-eqb (length q.room) (length q.room) refl))

  pub nothing_refused_reading : verdict (read_bytes_asks q.part (length q.room)) ≡ Ok tt
  nothing_refused_reading =
      rw (even_double (length q.part) (length q.room) f.twice, fit_in, eq-eqb _ _ (none_bad (symbols_in q.part) a)) refl

pub one_end : (d : ℤ) (p : Piece) (e f : ℤ) → encode_bytes_of d p.part (length p.room) ≡ Ok e → encode_bytes_of d p.part (length p.room) ≡ Ok f → e ≡ f
one_end d p e f a b = cc

abbrev pub bytes : Form
bytes = record {
  stored = bytes_of 2;
  held = symbols_in;
  stored_none = refl;
  stored_joined = bytes_append 2;
  held_none = refl;
  held_stored = held_symbols;
  FitsOut = FitsOut;
  Encodes = λ d p e. encode_bytes_of d p.part (length p.room) ≡ Ok e;
  writes = λ d p. encode_bytes_out d p.part p.room;
  encodes = λ d p h f. rw (nothing_refused d p h f);
  written = λ d p h f. rw (nothing_refused d p h f);
  one_end = one_end;
  FitsIn = FitsIn;
  Reads = λ q. verdict (read_bytes_asks q.part (length q.room)) ≡ Ok tt;
  gives = λ q. read_bytes_out q.part q.room;
  held_joined = symbols_cut;
  reads = nothing_refused_reading;
  given = λ q f a. rw (nothing_refused_reading q f a);
}

-- ---- the calls

pub cut_anywhere : (d : ℤ) (ps : List Piece) → T (in_range d) → Bytes (joined ps) → Each FitsOut ps
    → EncodedBytes d ps (bytes_of 2 (row_symbols d (joined ps))) (row_end d (joined ps))
cut_anywhere = calls.cut_anywhere bytes

pub cut_is_dvi : (d : ℤ) (ps : List Piece) → T (in_range d) → Bytes (joined ps) → Each FitsOut ps
    → (e : ℤ) × EncodedBytes d ps (bytes_of 2 (dvi_row (pos 2 *ℤ d) (joined ps))) e × (pos 2 *ℤ e ≡ dvi_cnt (pos 2 *ℤ d) (joined ps))
cut_is_dvi = calls.cut_is_dvi bytes

pub one_outcome : {d e f : ℤ} {ps : List Piece} {vs ws : List ℕ} → EncodedBytes d ps vs e → EncodedBytes d ps ws f → (vs ≡ ws) × (e ≡ f)
one_outcome = calls.one_outcome bytes

pub reads_anywhere : (d : ℤ) (bs : List ℕ) (qs : List Piece) → T (in_range d) → Bytes bs → Each FitsIn qs → joined qs ≡ bytes_of 2 (row_symbols d bs) → ReadBytes qs bs
reads_anywhere = calls.reads_anywhere bytes

pub written_reads_back : {d e : ℤ} {ps qs : List Piece} {ws : List ℕ} → T (in_range d) → Bytes (joined ps) → Each FitsOut ps → EncodedBytes d ps ws e
    → Each FitsIn qs → joined qs ≡ ws → ReadBytes qs (joined ps)
written_reads_back = calls.written_reads_back bytes

pub stretch_balanced : {d e : ℤ} {ps : List Piece} {ws : List ℕ} (m n : ℕ) → T (in_range d) → Bytes (joined ps) → Each FitsOut ps → EncodedBytes d ps ws e
    → (row_ones (take n (drop m (symbols_in ws))) ≤ 5 * length (take n (drop m (symbols_in ws))) + 8)
    × (5 * length (take n (drop m (symbols_in ws))) ≤ row_ones (take n (drop m (symbols_in ws))) + 8)
stretch_balanced = calls.stretch_balanced bytes
