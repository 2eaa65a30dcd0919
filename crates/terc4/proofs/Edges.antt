-- Both sides of each bound.
use mathlib.Core.Path.{◌≡◌, refl}
use Rattle.std.specs.Prelude.{Ok, Err}
use Rattle.refusal.specs.declared.Refusal.TheVariants.{Unlisted, NotTerc4}
use Rattle.hdmi.specs.Terc4.{terc4, terc4_number}
use Rattle.terc4.specs.Terc4.{symbol_answer, read_answer}

pub fifteen_is_listed : symbol_answer 15 ≡ Ok (record { 0 = 0x2c3 })
unfolding terc4
fifteen_is_listed = refl

pub sixteen_is_not : symbol_answer 16 ≡ Err Unlisted
sixteen_is_not = refl

-- ten bits are not enough to be a symbol, and an eleventh bit makes one of the sixteen none
pub a_neighbour_is_none : read_answer 0x2c2 ≡ Err (NotTerc4 0)
unfolding terc4_number terc4
a_neighbour_is_none = refl

pub eleven_bits_are_none : read_answer 0x6c3 ≡ Err (NotTerc4 0)
unfolding terc4_number terc4
eleven_bits_are_none = refl

pub the_last_is_read : read_answer 0x2c3 ≡ Ok 15
unfolding terc4_number terc4
the_last_is_read = refl
