-- DVI 1.0, section 3.3 (Control coding): the symbols sent while no pixels are.
use Rattle.std.specs.Prelude.{Bool, true, false, [], ◌∷◌, ℕ, ◌+◌, ◌*◌, get_or}

-- control symbol n, where bit 0 of n is C0 and bit 1 is C1; on lane 0 C0 is HSYNC and C1 is VSYNC
unfoldable pub control : ℕ → ℕ
control n = get_or (0x354 ∷ 0x0ab ∷ 0x154 ∷ 0x2ab ∷ []) n 0

-- the level of a control line as a bit
abbrev pub level : Bool → ℕ
level true = 1
level false = 0

-- the number of the control symbol for the levels of C0 and C1
abbrev pub pair_of : Bool → Bool → ℕ
pair_of c0 c1 = level c0 + 2 * level c1
