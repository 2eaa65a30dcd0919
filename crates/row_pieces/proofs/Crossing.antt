-- The same theorems over calls of chaffrail_encode_row and chaffrail_read_row.
use mathlib.Core.Path.{◌≡◌, sym, ap, ◌∙◌}
use mathlib.Core.List.{List}
use Prim.Native.Nat.{ℕ, ◌+◌, ◌*◌, ◌≤◌}
use lib.Dec.{T}
use lib.IntN.{ℤ, pos, ◌*ℤ◌}
use lib.ListN.{length, take, drop}
use Rattle.laws.specs.Bytes.{Bytes, bytes_of}
use Rattle.dvi.specs.Row.{dvi_row, dvi_cnt, row_symbols, row_end, row_ones}
use Rattle.dvi.specs.Symbol.{in_range}
use Rattle.row.specs.Wire.{encode_bytes_out}
use Rattle.row_reader.specs.Wire.{symbols_in, read_bytes_out}
use Rattle.crossing.specs.declared.Answer.{Answer}
use Rattle.crossing.specs.Crossing.{given, told}
use Rattle.c_row.specs.Crossing.{row_ended}
use Rattle.row_pieces.specs.Calls.{Piece, joined, Each}
use Rattle.row_pieces.specs.Crossing.{encode_answer, read_answer, EncodedC, ReadC}
use Rattle.row_pieces.specs.Wire.{FitsOut, FitsIn}
use Rattle.row_pieces.proofs.Calls as calls
use Rattle.row_pieces.proofs.Calls.{AllData, Form}
use Rattle.row_pieces.proofs.Wire.{bytes}

encode_answered : (d : ℤ) (p : Piece) → T (in_range d) → FitsOut p → encode_answer d p ≡ given 0 (row_end d p.part)
encode_answered d p h f = ap row_ended (bytes.encodes d p h f)

read-answered : (q : Piece) → FitsIn q → AllData (symbols_in q.part) → read_answer q ≡ given 0 (pos 0)
read-answered q f a = ap told (bytes.reads q f a)

abbrev crossing : Form
crossing = record {
  stored = bytes.stored;
  held = bytes.held;
  stored_none = bytes.stored_none;
  stored_joined = bytes.stored_joined;
  held_none = bytes.held_none;
  held_stored = bytes.held_stored;
  FitsOut = FitsOut;
  Encodes = λ d p e. ((encode_answer d p).refusal ≡ 0) × ((encode_answer d p).carry ≡ e);
  writes = λ d p. encode_bytes_out d p.part p.room;
  encodes = λ d p h f. (ap (λ (a : Answer). a.refusal) (encode_answered d p h f), ap (λ (a : Answer). a.carry) (encode_answered d p h f));
  written = bytes.written;
  one_end = λ d p e f a b. sym a.1 ∙ b.1;
  FitsIn = FitsIn;
  Reads = λ q. (read_answer q).refusal ≡ 0;
  gives = λ q. read_bytes_out q.part q.room;
  held_joined = bytes.held_joined;
  reads = λ q f a. ap (λ (x : Answer). x.refusal) (read-answered q f a);
  given = bytes.given;
}

pub cut_anywhere : (d : ℤ) (ps : List Piece) → T (in_range d) → Bytes (joined ps) → Each FitsOut ps
    → EncodedC d ps (bytes_of 2 (row_symbols d (joined ps))) (row_end d (joined ps))
cut_anywhere = calls.cut_anywhere crossing

pub cut_is_dvi : (d : ℤ) (ps : List Piece) → T (in_range d) → Bytes (joined ps) → Each FitsOut ps
    → (e : ℤ) × EncodedC d ps (bytes_of 2 (dvi_row (pos 2 *ℤ d) (joined ps))) e × (pos 2 *ℤ e ≡ dvi_cnt (pos 2 *ℤ d) (joined ps))
cut_is_dvi = calls.cut_is_dvi crossing

pub one_outcome : {d e f : ℤ} {ps : List Piece} {vs ws : List ℕ} → EncodedC d ps vs e → EncodedC d ps ws f → (vs ≡ ws) × (e ≡ f)
one_outcome = calls.one_outcome crossing

pub reads_anywhere : (d : ℤ) (bs : List ℕ) (qs : List Piece) → T (in_range d) → Bytes bs → Each FitsIn qs → joined qs ≡ bytes_of 2 (row_symbols d bs) → ReadC qs bs
reads_anywhere = calls.reads_anywhere crossing

pub written_reads_back : {d e : ℤ} {ps qs : List Piece} {ws : List ℕ} → T (in_range d) → Bytes (joined ps) → Each FitsOut ps → EncodedC d ps ws e
    → Each FitsIn qs → joined qs ≡ ws → ReadC qs (joined ps)
written_reads_back = calls.written_reads_back crossing

pub stretch_balanced : {d e : ℤ} {ps : List Piece} {ws : List ℕ} (m n : ℕ) → T (in_range d) → Bytes (joined ps) → Each FitsOut ps → EncodedC d ps ws e
    → (row_ones (take n (drop m (symbols_in ws))) ≤ 5 * length (take n (drop m (symbols_in ws))) + 8)
    × (5 * length (take n (drop m (symbols_in ws))) ≤ row_ones (take n (drop m (symbols_in ws))) + 8)
stretch_balanced = calls.stretch_balanced crossing
