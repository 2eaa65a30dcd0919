-- The bytes of an island's words read back: the sync pair, and the packet.
use mathlib.Core.Path.{◌≡◌, refl, sym, ap, ◌∙◌}
use mathlib.Core.Bool.{Bool, true, false, cond, ◌&&◌}
use mathlib.Core.List.{List}
use Prim.Native.Nat.{ℕ, zero, suc, ◌-◌, ◌*◌, ◌^◌, ◌<◌}
use native.Mathlib.Omega.{arith}
use lib.Dec.{leb, ltb}
use lib.IntN.{pos}
use lib.ListN.{length, get_or}
use Rattle.laws.specs.Bytes.{bytes_of, numbers_of}
use Rattle.laws.proofs.Bytes.{Fit, written_read, length_bytes}
use Rattle.laws.proofs.Tables.{made}
use Rattle.hdmi.specs.Island.{guard_word, data_word, island_word, island}
use Rattle.hdmi.specs.Packet.{RightPacket}
use Rattle.hdmi.proofs.Island.{guard_lt, data_lt, length-island}
use Rattle.island_reader.specs.Exact.{Encodes}
use Rattle.island_reader.specs.Read.{read_answer, read_out}
use Rattle.island_reader.proofs.Accepted.{accepts}
use Rattle.crossing.specs.Crossing.{given}
use Rattle.c_island.specs.Asks.{words_in, read_island_of, read_island_out}
use Rattle.c_island.specs.Crossing.{island_read}

fit_made : (f : ℕ → ℕ) (w i n : ℕ) → ((k : ℕ) → f k < 256 ^ w) → Fit w (made f i n)
fit_made f w i zero h = tt
fit_made f w i (suc n) h = (h i, fit_made f w (suc i) n h)

either : (b : Bool) (x y : ℕ) → x < 2 ^ 30 → y < 2 ^ 30 → cond b x y < 256 ^ 4
either true x y h l = omega arith
either false x y h l = omega arith

-- where the bytes are four for each word, the reader of words decides
decides : (lent out : List ℕ) → length lent ≡ 144 → (read_island_of lent out ≡ read_answer (words_in lent) out) × (read_island_out lent out ≡ read_out (words_in lent) out)
decides lent out long = rw long (refl, refl)

module _ (hv : ℕ) (p : List ℕ) (pair : hv < 4) where
  word_lt : (i : ℕ) → island_word hv p i < 256 ^ 4
  unfolding island_word
  word_lt i = either (leb 2 i && ltb i 34) (data_word hv p (i - 2)) (guard_word hv) (data_lt hv p (i - 2) pair) (guard_lt hv pair)

  fits : Fit 4 (island hv p)
  unfolding island
  fits = fit_made (island_word hv p) 4 0 36 word_lt

  words_back : words_in (bytes_of 4 (island hv p)) ≡ island hv p
  words_back = ap (λ (n : ℕ). numbers_of 4 n (bytes_of 4 (island hv p))) (sym (length-island hv p)) ∙ written_read 4 (island hv p) fits

  -- what `encode_island` writes of a packet with right parity, `read_island` answers with the sync pair and the packet
  pub island_read_back : RightPacket p → ((m : ℕ) → get_or p m 0 < 256) → (out : List ℕ) → length out ≡ 36
      → (island_read (read_island_of (bytes_of 4 (island hv p)) out) ≡ given hv (pos 0)) × (read_island_out (bytes_of 4 (island hv p)) out ≡ p)
  island_read_back right bytes out l =
      let long : length (bytes_of 4 (island hv p)) ≡ 144 = length_bytes 4 (island hv p) ∙ ap (λ (n : ℕ). 4 * n) (length-island hv p) in
      let e : Encodes hv p (island hv p) = record { pair = pair; right_packet = right; bytes = bytes; same = refl } in
      let a = accepts hv p (island hv p) out e l in
      let d = decides (bytes_of 4 (island hv p)) out long in
      (ap island_read (d.0 ∙ ap (λ (ws : List ℕ). read_answer ws out) words_back ∙ a.0), d.1 ∙ ap (λ (ws : List ℕ). read_out ws out) words_back ∙ a.1)
