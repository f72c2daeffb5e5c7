-- Places in a ravel that slots lead to, axis after axis.
-- They are the places of the cells that `Indexing` picks index by index.
use Rattle.std.specs.Prelude.{◌≡◌, ℕ, ◌+◌, ◌*◌, ◌<◌, ◌≤◌, List, [], ◌∷◌, map, length}
use Rattle.std.specs.List.{All, flat_map}
use Rattle.apl_arrays.specs.Index.{indices, position_in, size_of}
use Rattle.apl_select.specs.declared.reach.Reading.{Reading}
use Rattle.apl_select.specs.Indexing.{Places, joined_shape, led_to}

-- from each start so many rows of an axis on, its places
abbrev pub crossed : List ℕ → ℕ → List ℕ → List ℕ
crossed starts n places = flat_map (λ s. map (λ k. s * n + k) places) starts

-- the same along all axes
abbrev pub reached : List ℕ → List ℕ → List Places → List ℕ
reached starts [] ps = starts
reached starts (n ∷ ns) [] = starts
reached starts (n ∷ ns) (p ∷ ps) = reached (crossed starts n p.places) ns ps

-- the places to which the index lists within the joined shape lead
abbrev pub led : List ℕ → List Places → List ℕ
led shape ps = map (λ i. position_in shape (led_to ps i)) (indices (joined_shape ps))

-- each slot has places on its axis, one for each index list within its shape
abbrev pub AreOnAxes : List ℕ → List Places → Type 0
AreOnAxes [] [] = Unit {0}
AreOnAxes [] (p ∷ ps) = ⊥
AreOnAxes (n ∷ ns) [] = ⊥
AreOnAxes (n ∷ ns) (p ∷ ps) = (length p.places ≡ size_of p.shape) × All (λ k. k < n) p.places × AreOnAxes ns ps

-- the starts are near, and the places that they lead to are those of so many elements of an array
pub record IsRead (r : Reading) (count : ℕ) : Type 0 where
  pub near : All (λ s. s * r.len ≤ 1000000) r.starts.now
  pub within : All (λ q. q < count) (crossed r.starts.now r.len r.places.now)
  pub small : count ≤ 1000000
