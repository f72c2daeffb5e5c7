-- The stop and trace vectors of functions.
use Rattle.std.specs.Prelude.{ℕ, ◌==◌, Bool, List, [], ◌∷◌, unwrap_or, Option, Some, None}
use Rattle.std.specs.BTreeMap.{insert_entry}
use Rattle.std.specs.Cmp.Lexicographic.{slice_cmp}
use Rattle.std.specs.List.{list_any}
use Rattle.std.specs.Map.{lookup, remove_entry}
use Rattle.std.specs.Ordering.{nat_cmp}
use Rattle.std.specs.Str.{bytes_eq}

-- The line numbers that are in the stop or trace vectors of functions, which ascend by name. The vector of a function that isn't listed is empty.
abbrev pub Vectors : Type 0
Vectors = List (List ℕ × List ℕ)

-- the vector of a function
abbrev pub vector_of : List ℕ → Vectors → List ℕ
vector_of name vectors = unwrap_or (lookup (bytes_eq name) vectors) []

-- a line is in the vector of a function
abbrev pub has_line : List ℕ → ℕ → Vectors → Bool
has_line name line vectors = list_any (λ n. n == line) (vector_of name vectors)

-- without that of this function
abbrev pub without_vector : List ℕ → Vectors → Vectors
without_vector name vectors = remove_entry (bytes_eq name) vectors

-- with this one for a function; an empty one isn't listed
abbrev pub with_vector : List ℕ → List ℕ → Vectors → Vectors
with_vector name [] vectors = without_vector name vectors
with_vector name (n ∷ ns) vectors = insert_entry (slice_cmp nat_cmp) vectors name (n ∷ ns)

-- the vectors after one of them was asked for, and replaced where there is a new one
abbrev pub after_asking : List ℕ → Option (List ℕ) → Vectors → Vectors
after_asking name None vectors = vectors
after_asking name (Some lines) vectors = with_vector name lines vectors
