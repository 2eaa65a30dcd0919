-- How a row's symbols stand in a buffer: in their order, each in as many places.
use Rattle.std.specs.Prelude.{◌≡◌, ℕ, List, [], ◌∷◌, ◌++◌, refl}
use Rattle.laws.specs.Bytes.{bytes_of}
use Rattle.laws.proofs.Bytes.{bytes_append}

pub record StoreLaws {A : Type 0} (stored : List ℕ → List A) : Type 0 where
  pub none : stored [] ≡ []
  pub one_more : (ss : List ℕ) (s : ℕ) → stored (ss ++ (s ∷ [])) ≡ stored ss ++ stored (s ∷ [])

-- in words
pub words_laws : StoreLaws (λ (ss : List ℕ). ss)
words_laws = record { none = refl; one_more = λ ss s. refl }

-- in bytes, two for each
pub bytes_laws : StoreLaws (bytes_of 2)
bytes_laws = record { none = refl; one_more = λ ss s. bytes_append 2 ss (s ∷ []) }
