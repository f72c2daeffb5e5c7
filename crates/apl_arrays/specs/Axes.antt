-- Lists with one item more or less, as for an axis that is taken out.
use Rattle.std.specs.Prelude.{ℕ, zero, suc, List, [], ◌∷◌}

-- the list without its k-th item
abbrev pub without : {A : Type 0} → ℕ → List A → List A
without k [] = []
without zero (x ∷ xs) = xs
without (suc k) (x ∷ xs) = x ∷ without k xs

-- the list with an item more, at place k
abbrev pub inserted : {A : Type 0} → ℕ → A → List A → List A
inserted zero y xs = y ∷ xs
inserted (suc k) y [] = y ∷ []
inserted (suc k) y (x ∷ xs) = x ∷ inserted k y xs
