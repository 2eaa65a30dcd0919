-- A packet laid down from its five words, and the parity of the five.
use Rattle.std.specs.Prelude.{Bool, ◌&&◌, List, ◌++◌, ℕ, get_or}
use Rattle.laws.specs.Bytes.{low_first, bytes_of}
use Rattle.hdmi.specs.Parity.{right}

-- the bytes of a header's word and of four subpackets' words, each with the first byte lowest
abbrev pub laid : ℕ → List ℕ → List ℕ
laid h ws = low_first 4 h ++ bytes_of 8 ws

-- subpacket s has its right parity byte
abbrev pub right_word : List ℕ → ℕ → Bool
right_word ws s = right 7 (low_first 8 (get_or ws s 0))

abbrev pub right_blocks : ℕ → List ℕ → Bool
right_blocks h ws = (((right 3 (low_first 4 h) && right_word ws 0) && right_word ws 1) && right_word ws 2) && right_word ws 3
