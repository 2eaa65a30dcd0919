-- However a row is cut into pieces of at most 4,096 bytes: every call is answered; the buffers joined, and the last discrepancy, are those that
-- DVI 1.0 gives the uncut row; cut anew anywhere they read back; and every stretch of them is balanced.
use mathlib.Core.Path.{◌≡◌, refl}
use mathlib.Core.Bool.{true}
use mathlib.Core.List.{List}
use Prim.Native.Nat.{ℕ, ◌+◌, ◌*◌, ◌≤◌}
use borrow.Author.Tests.{le-leb, eq-eqb}
use lib.Dec.{T}
use lib.IntN.{ℤ, pos, ◌*ℤ◌}
use lib.ListN.{length, take, drop}
use Rattle.std.specs.Prelude.{Ok}
use Rattle.laws.specs.Bytes.{Bytes}
use Rattle.laws.proofs.Truth.{T_true}
use Rattle.dvi.specs.Row.{dvi_row, dvi_cnt, row_symbols, row_end, row_ones}
use Rattle.dvi.specs.Symbol.{in_range}
use Rattle.refusal.specs.Verdict.{verdict}
use Rattle.row.specs.Answer.{lengths_fit, encode_row_asks, encode_row_of, encode_row_out}
use Rattle.row_reader.specs.Answer.{read_row_asks, read_row_out}
use Rattle.row_pieces.specs.Calls.{Piece, joined, Each}
use Rattle.row_pieces.specs.Pieces.{Fits, Encoded, Read}
use Rattle.row_pieces.proofs.Calls as calls
use Rattle.row_pieces.proofs.Calls.{AllData, none_bad, Form}

-- ---- one call

lengths_fit_lem : (p : Piece) → Fits p → lengths_fit (length p.part) (length p.room) ≡ true
lengths_fit_lem p f = simp (le-leb _ _ f.short, eq-eqb _ _ f.same)

nothing_refused : (d : ℤ) (p : Piece) → T (in_range d) → Fits p → verdict (encode_row_asks d (length p.part) (length p.room)) ≡ Ok tt
nothing_refused d p h f = simp (lengths_fit_lem p f, T_true {b = in_range d} h)

nothing_refused_reading : (p : Piece) → Fits p → AllData p.part → verdict (read_row_asks p.part (length p.room)) ≡ Ok tt
nothing_refused_reading p f a = simp (lengths_fit_lem p f, eq-eqb _ _ (none_bad p.part a))

one_end : (d : ℤ) (p : Piece) (e f : ℤ) → encode_row_of d p.part (length p.room) ≡ Ok e → encode_row_of d p.part (length p.room) ≡ Ok f → e ≡ f
one_end d p e f a b = cc

abbrev symbols : Form
symbols = record {
  stored = λ ss. ss;
  held = λ ss. ss;
  stored_none = refl;
  stored_joined = λ xs ys. refl;
  held_none = refl;
  held_stored = λ d bs h b. refl;
  FitsOut = Fits;
  Encodes = λ d p e. encode_row_of d p.part (length p.room) ≡ Ok e;
  writes = λ d p. encode_row_out d p.part p.room;
  encodes = λ d p h f. rw (nothing_refused d p h f);
  written = λ d p h f. rw (nothing_refused d p h f);
  one_end = one_end;
  FitsIn = Fits;
  Reads = λ q. verdict (read_row_asks q.part (length q.room)) ≡ Ok tt;
  gives = λ q. read_row_out q.part q.room;
  held_joined = λ q f ys. refl;
  reads = nothing_refused_reading;
  given = λ q f a. rw (nothing_refused_reading q f a);
}

-- ---- the calls

-- every call is answered, and together they give the uncut row
pub cut_anywhere : (d : ℤ) (ps : List Piece) → T (in_range d) → Bytes (joined ps) → Each Fits ps
    → Encoded d ps (row_symbols d (joined ps)) (row_end d (joined ps))
cut_anywhere = calls.cut_anywhere symbols

-- in DVI 1.0's own count: its row from Cnt = 2d, and an end that is half of the count it leaves
pub cut_is_dvi : (d : ℤ) (ps : List Piece) → T (in_range d) → Bytes (joined ps) → Each Fits ps
    → (e : ℤ) × Encoded d ps (dvi_row (pos 2 *ℤ d) (joined ps)) e × (pos 2 *ℤ e ≡ dvi_cnt (pos 2 *ℤ d) (joined ps))
cut_is_dvi = calls.cut_is_dvi symbols

-- the calls have one outcome
pub one_outcome : {d e f : ℤ} {ps : List Piece} {ss ts : List ℕ} → Encoded d ps ss e → Encoded d ps ts f → (ss ≡ ts) × (e ≡ f)
one_outcome = calls.one_outcome symbols

-- the symbols of a row, cut anew in pieces of at most 4,096, are all read and give the row
pub reads_anywhere : (d : ℤ) (bs : List ℕ) (qs : List Piece) → T (in_range d) → Bytes bs → Each Fits qs → joined qs ≡ row_symbols d bs → Read qs bs
reads_anywhere = calls.reads_anywhere symbols

-- what the encoder's calls wrote, cut anew and read by calls, is the row that was encoded
pub written_reads_back : {d e : ℤ} {ps qs : List Piece} {ss : List ℕ} → T (in_range d) → Bytes (joined ps) → Each Fits ps → Encoded d ps ss e
    → Each Fits qs → joined qs ≡ ss → Read qs (joined ps)
written_reads_back = calls.written_reads_back symbols

-- any n symbols in a row of what the calls wrote, from index m on
pub stretch_balanced : {d e : ℤ} {ps : List Piece} {ss : List ℕ} (m n : ℕ) → T (in_range d) → Bytes (joined ps) → Each Fits ps → Encoded d ps ss e
    → (row_ones (take n (drop m ss)) ≤ 5 * length (take n (drop m ss)) + 8) × (5 * length (take n (drop m ss)) ≤ row_ones (take n (drop m ss)) + 8)
stretch_balanced = calls.stretch_balanced symbols
