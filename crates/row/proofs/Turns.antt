-- How far the encoder is along a row: where it begins, one step more, and its end; and what stands in the buffer meanwhile.
use Rattle.std.proofs.Common.{◌≡◌, ℕ, ◌+◌, ◌*◌, ◌<◌, ◌≤◌, List, [], ◌∷◌, ◌++◌, length, get_or, take, drop, ℤ, sym, refl, ap, ◌∙◌, append_assoc, append-nil, add-one, arith, drop_of_length-le, take_all, drop-cons}
use Rattle.dvi.specs.Row.{row_symbols, row_end}
use Rattle.charts.specs.Word.{unbiased, held, Step}
use Rattle.row.specs.Store.{StoreLaws}

-- a row from d, at index i with the lane at e: the symbols sent so far and those that the bytes left will give are the whole row
pub record Along (d : ℤ) (bytes sent : List ℕ) (e : ℤ) (i : ℕ) : Type 0 where
  pub ends : row_end e (drop i bytes) ≡ row_end d bytes
  pub row : sent ++ row_symbols e (drop i bytes) ≡ row_symbols d bytes

module _ (bytes sent : List ℕ) (d e : ℤ) (i s y : ℕ) (h : i < length bytes) (t : Step e (get_or bytes i 0) s y) where
  turn_end : row_end (unbiased (held y)) (drop (i + 1) bytes) ≡ row_end e (drop i bytes)
  turn_end = simp (t.next, add-one, drop-cons bytes i 0 h)

  turn_row : (sent ++ (s ∷ [])) ++ row_symbols (unbiased (held y)) (drop (i + 1) bytes) ≡ sent ++ row_symbols e (drop i bytes)
  turn_row = simp (t.sent, t.next, add-one, drop-cons bytes i 0 h, append_assoc)

  more : Along d bytes sent e i → Along d bytes (sent ++ (s ∷ [])) (unbiased (held y)) (i + 1)
  more a = record { ends = turn_end ∙ a.ends; row = turn_row ∙ a.row }

finish : {d e : ℤ} {bytes sent : List ℕ} {i : ℕ} → length bytes ≤ i → Along d bytes sent e i → (e ≡ row_end d bytes) × (sent ≡ row_symbols d bytes)
finish {bytes} {i} l a =
    let p : drop i bytes ≡ [] = drop_of_length-le bytes l in
    (simp p at a.ends, simp (p, append-nil) at a.row)

-- what was sent stands in the buffer
pub record Written {A : Type 0} (width : ℕ) (stored : List ℕ → List A) (d : ℤ) (bytes : List ℕ) (out : List A) (e : ℤ) (i : ℕ) : Type 0 where
  pub sent : List ℕ
  pub along : Along d bytes sent e i
  pub stands : take (width * i) out ≡ stored sent

module _ {A : Type 0} {width : ℕ} {stored : List ℕ → List A} (laws : StoreLaws stored) (bytes : List ℕ) where
  pub written_none : (out : List A) (d : ℤ) → Written width stored d bytes out d 0
  written_none out d =
      let z : width * 0 ≡ 0 = omega arith in
      record { sent = []; along = record { ends = refl; row = refl }; stands = ap (λ (n : ℕ). take n out) z ∙ sym laws.none }

  pub written_more : (out next : List A) (d e : ℤ) (i s y : ℕ) → i < length bytes → Step e (get_or bytes i 0) s y
      → take (width * (i + 1)) next ≡ take (width * i) out ++ stored (s ∷ []) → Written width stored d bytes out e i
      → Written width stored d bytes next (unbiased (held y)) (i + 1)
  written_more out next d e i s y h t p w = record {
    sent = w.sent ++ (s ∷ []);
    along = more bytes w.sent d e i s y h t w.along;
    stands = p ∙ ap (λ (l : List A). l ++ stored (s ∷ [])) w.stands ∙ sym (laws.one_more w.sent s);
  }

  pub written_all : (out : List A) (d e : ℤ) (i : ℕ) → i ≡ length bytes → length out ≡ width * length bytes → Written width stored d bytes out e i
      → (e ≡ row_end d bytes) × (out ≡ stored (row_symbols d bytes))
  written_all out d e i l m w =
      let r = finish (omega arith) w.along in
      let whole : length out ≤ width * i = rw (l, m) (omega arith) in
      (r.0, sym (take_all (width * i) out whole) ∙ w.stands ∙ ap stored r.1)
