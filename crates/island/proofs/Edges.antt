-- Both sides of each bound.
use mathlib.Core.Path.{◌≡◌, refl}
use lib.ListN.{replicate}
use Rattle.std.specs.Prelude.{Ok, Err}
use Rattle.refusal.specs.declared.Refusal.TheVariants.{Length, SyncPair}
use Rattle.refusal.specs.Verdict.{verdict}
use Rattle.island.specs.Encode.{encode_asks}

pub pair_3_taken : verdict (encode_asks 3 (replicate 36 0) (replicate 36 0)) ≡ Ok tt
pair_3_taken = refl

pub pair_4_refused : verdict (encode_asks 4 (replicate 36 0) (replicate 36 0)) ≡ Err SyncPair
pair_4_refused = refl

pub bytes_35_refused : verdict (encode_asks 3 (replicate 35 0) (replicate 36 0)) ≡ Err Length
bytes_35_refused = refl

pub bytes_37_refused : verdict (encode_asks 3 (replicate 37 0) (replicate 36 0)) ≡ Err Length
bytes_37_refused = refl

pub words_35_refused : verdict (encode_asks 3 (replicate 36 0) (replicate 35 0)) ≡ Err Length
words_35_refused = refl

pub words_37_refused : verdict (encode_asks 3 (replicate 36 0) (replicate 37 0)) ≡ Err Length
words_37_refused = refl

-- the length goes before the sync pair
pub length-first : verdict (encode_asks 4 (replicate 36 0) (replicate 35 0)) ≡ Err Length
length-first = refl
