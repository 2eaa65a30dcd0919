-- HDMI 1.3a, section 5.4.3 (TERC4 coding): the sixteen symbols that carry four bits each during a data island.
use Rattle.std.specs.Prelude.{[], ◌∷◌, ℕ, eqb, get_or}
use Rattle.laws.specs.Search.{first}

-- the symbol of a number of four bits
unfoldable pub terc4 : ℕ → ℕ
terc4 n =
    get_or (0x29c ∷ 0x263 ∷ 0x2e4 ∷ 0x2e2 ∷ 0x171 ∷ 0x11e ∷ 0x18e ∷ 0x13c ∷ 0x2cc ∷ 0x139 ∷ 0x19c ∷ 0x2c6 ∷ 0x28e ∷ 0x271 ∷ 0x163 ∷ 0x2c3 ∷ []) n 0

-- the number whose symbol x is, and 16 where x is none of the sixteen
unfoldable pub terc4_number : ℕ → ℕ
terc4_number x = first (λ n. eqb x (terc4 n)) 0 16
