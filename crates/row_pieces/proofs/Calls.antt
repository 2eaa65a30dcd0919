-- The theorems of a row that goes in pieces, over any form of the two entries: what is asked of a form, and what follows of its calls.
use mathlib.Core.Path.{◌≡◌, refl, sym, ap, ◌∙◌}
use mathlib.Core.Bool.{false, not}
use mathlib.Core.List.{List, [], ◌∷◌, ◌++◌, map-append}
use Prim.Native.Nat.{ℕ, ◌+◌, ◌*◌, ◌≤◌, ◌<◌}
use native.Mathlib.Omega.{arith}
use lib.Dec.{T}
use lib.IntN.{ℤ, pos, ◌*ℤ◌}
use lib.ListN.{length, take, drop, get_or, length-append, get_or-append}
use lib.Seq.{get_or-append-add}
use Rattle.laws.specs.Bytes.{Bytes}
use Rattle.laws.proofs.Searching.{none}
use Rattle.laws.proofs.Truth.{T_true}
use Rattle.dvi.specs.Decoder.{byte_of, is_data}
use Rattle.dvi.specs.Row.{dvi_row, dvi_cnt, row_symbols, row_end, row_ones, row_bytes}
use Rattle.dvi.specs.Symbol.{in_range}
use Rattle.dvi.proofs.Rows.{row_is_dvi, end_is_dvi, end_in_range, symbols_append, end_append, length_symbols, reads_back, all_data, balanced, bytes_left, bytes_right}
use Rattle.row_reader.specs.Answer.{first_bad}
use Rattle.row_pieces.specs.Calls as calls
use Rattle.row_pieces.specs.Calls.{Piece, joined, Each, Calls}

-- ---- rows of data symbols

-- every symbol of a row is a data symbol
abbrev pub AllData : List ℕ → Type 0
AllData ss = (i : ℕ) → i < length ss → T (is_data (get_or ss i 0))

data_left : (xs ys : List ℕ) → AllData (xs ++ ys) → AllData xs
data_left xs ys a i l =
    let k : i < length (xs ++ ys) = simp length-append (omega arith) in
    rw (get_or-append xs ys 0 i l) at (a i k)

data_right : (xs ys : List ℕ) → AllData (xs ++ ys) → AllData ys
data_right xs ys a i l =
    let k : length xs + i < length (xs ++ ys) = simp length-append (omega arith) in
    rw (get_or-append-add xs ys i 0) at (a (length xs + i) k)

pub none_bad : (ss : List ℕ) → AllData ss → first_bad ss ≡ length ss
none_bad ss a =
    let passed : (i : ℕ) → 0 ≤ i → i < 0 + length ss → not (is_data (get_or ss i 0)) ≡ false =
    λ i l u. simp (T_true {b = is_data (get_or ss i 0)} (a i (omega arith))) in
    none (λ i. not (is_data (get_or ss i 0))) 0 (length ss) passed ∙ omega arith

-- ---- what is asked of a form

pub record Form : Type 1 where
  -- how symbols stand in a buffer, and the symbols that a buffer holds
  pub stored : List ℕ → List ℕ
  pub held : List ℕ → List ℕ
  pub stored_none : stored [] ≡ []
  pub stored_joined : (xs ys : List ℕ) → stored (xs ++ ys) ≡ stored xs ++ stored ys
  pub held_none : held [] ≡ []
  pub held_stored : (d : ℤ) (bs : List ℕ) → T (in_range d) → Bytes bs → held (stored (row_symbols d bs)) ≡ row_symbols d bs
  -- the encoder's calls: a piece that fits is answered, with the discrepancy after it and its symbols in the buffer, and with no other
  pub FitsOut : Piece → Type 0
  pub Encodes : ℤ → Piece → ℤ → Type 0
  pub writes : ℤ → Piece → List ℕ
  pub encodes : (d : ℤ) (p : Piece) → T (in_range d) → FitsOut p → Encodes d p (row_end d p.part)
  pub written : (d : ℤ) (p : Piece) → T (in_range d) → FitsOut p → writes d p ≡ stored (row_symbols d p.part)
  pub one_end : (d : ℤ) (p : Piece) (e f : ℤ) → Encodes d p e → Encodes d p f → e ≡ f
  -- the reader's: a piece that fits holds whole symbols, and is answered where they are data
  pub FitsIn : Piece → Type 0
  pub Reads : Piece → Type 0
  pub gives : Piece → List ℕ
  pub held_joined : (q : Piece) → FitsIn q → (ys : List ℕ) → held (q.part ++ ys) ≡ held q.part ++ held ys
  pub reads : (q : Piece) → FitsIn q → AllData (held q.part) → Reads q
  pub given : (q : Piece) → FitsIn q → AllData (held q.part) → gives q ≡ row_bytes (held q.part)

-- ---- what follows

module _ (F : Form) where
  abbrev Encoded : ℤ → List Piece → List ℕ → ℤ → Type 0
  Encoded = Calls F.Encodes F.writes

  abbrev Read : List Piece → List ℕ → Type 0
  Read qs bs = Calls {S = Unit {0}} (λ _ q _. F.Reads q) (λ _ q. F.gives q) tt qs bs tt

  -- every call is answered, and together they give the uncut row
  pub cut_anywhere : (d : ℤ) (ps : List Piece) → T (in_range d) → Bytes (joined ps) → Each F.FitsOut ps
      → Encoded d ps (F.stored (row_symbols d (joined ps))) (row_end d (joined ps))
  cut_anywhere d [] h b f = rw F.stored_none calls.Calls.none
  cut_anywhere d (p ∷ ps) h b f =
      let e = row_end d p.part in
      let i = cut_anywhere e ps (end_in_range d p.part h (bytes_left p.part (joined ps) b)) (bytes_right p.part (joined ps) b) f.1 in
      let c = calls.Calls.call (F.encodes d p h f.0) i in
      let row = ap F.stored (symbols_append d p.part (joined ps)) ∙ F.stored_joined (row_symbols d p.part) (row_symbols e (joined ps)) in
      rw (row, end_append d p.part (joined ps), sym (F.written d p h f.0)) c

  -- in DVI 1.0's own count: its row from Cnt = 2d, and an end that is half of the count it leaves
  pub cut_is_dvi : (d : ℤ) (ps : List Piece) → T (in_range d) → Bytes (joined ps) → Each F.FitsOut ps
      → (e : ℤ) × Encoded d ps (F.stored (dvi_row (pos 2 *ℤ d) (joined ps))) e × (pos 2 *ℤ e ≡ dvi_cnt (pos 2 *ℤ d) (joined ps))
  cut_is_dvi d ps h b f =
      (row_end d (joined ps), rw (row_is_dvi d (joined ps) h b) at (cut_anywhere d ps h b f), end_is_dvi d (joined ps) h b)

  -- the calls have one outcome
  pub one_outcome : {d e f : ℤ} {ps : List Piece} {ls ms : List ℕ} → Encoded d ps ls e → Encoded d ps ms f → (ls ≡ ms) × (e ≡ f)
  one_outcome calls.Calls.none calls.Calls.none = (refl, refl)
  one_outcome (calls.Calls.call {d} {e} {f} {p} {ps} {ls} a r) (calls.Calls.call {e = g} {f = k} {ls = ms} b q) =
      let same : e ≡ g = F.one_end d p e g a b in
      let i = one_outcome r (rw (sym same) at q) in
      (ap (λ (l : List ℕ). F.writes d p ++ l) i.0, i.1)

  read_all : (qs : List Piece) → Each F.FitsIn qs → AllData (F.held (joined qs)) → Read qs (row_bytes (F.held (joined qs)))
  read_all [] f a = rw F.held_none calls.Calls.none
  read_all (q ∷ qs) f a =
      let cut = F.held_joined q f.0 (joined qs) in
      let b : AllData (F.held q.part ++ F.held (joined qs)) = rw cut at a in
      let l = data_left (F.held q.part) (F.held (joined qs)) b in
      let i = read_all qs f.1 (data_right (F.held q.part) (F.held (joined qs)) b) in
      rw (cut, map-append byte_of (F.held q.part) (F.held (joined qs)), sym (F.given q f.0 l)) (calls.Calls.call (F.reads q f.0 l) i)

  -- the symbols of a row, cut anew, are all read and give the row
  pub reads_anywhere : (d : ℤ) (bs : List ℕ) (qs : List Piece) → T (in_range d) → Bytes bs → Each F.FitsIn qs
      → joined qs ≡ F.stored (row_symbols d bs) → Read qs bs
  reads_anywhere d bs qs h b f e =
      let s : F.held (joined qs) ≡ row_symbols d bs = ap F.held e ∙ F.held_stored d bs h b in
      let a : AllData (F.held (joined qs)) = rw s (λ i l. all_data d bs h b i (rw (length_symbols d bs) at l)) in
      let r : row_bytes (F.held (joined qs)) ≡ bs = ap row_bytes s ∙ reads_back d bs h b in
      rw r at (read_all qs f a)

  -- what the encoder's calls wrote, cut anew and read by calls, is the row that was encoded
  pub written_reads_back : {d e : ℤ} {ps qs : List Piece} {ls : List ℕ} → T (in_range d) → Bytes (joined ps) → Each F.FitsOut ps → Encoded d ps ls e
      → Each F.FitsIn qs → joined qs ≡ ls → Read qs (joined ps)
  written_reads_back {d} {ps} {qs} h b f c g e =
      reads_anywhere d (joined ps) qs h b g (e ∙ (one_outcome c (cut_anywhere d ps h b f)).0)

  -- any n symbols in a row of what the calls wrote, from index m on
  pub stretch_balanced : {d e : ℤ} {ps : List Piece} {ls : List ℕ} (m n : ℕ) → T (in_range d) → Bytes (joined ps) → Each F.FitsOut ps → Encoded d ps ls e
      → (row_ones (take n (drop m (F.held ls))) ≤ 5 * length (take n (drop m (F.held ls))) + 8)
      × (5 * length (take n (drop m (F.held ls))) ≤ row_ones (take n (drop m (F.held ls))) + 8)
  stretch_balanced {d} {ps} m n h b f c =
      rw (ap F.held (one_outcome c (cut_anywhere d ps h b f)).0 ∙ F.held_stored d (joined ps) h b) (balanced d m n (joined ps) h b)
