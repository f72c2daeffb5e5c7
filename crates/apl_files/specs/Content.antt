-- What a file holds, by its digest.
use Rattle.std.specs.Prelude.{◌≡◌, ℕ, List, ◌++◌, Option, Some, None, ◌⊎◌}
use Rattle.sha2.specs.Hashers.{Holds256}
use Rattle.sha2.specs.declared.Sha256.{Sha256}

-- nothing stands there now, or what stood there before
abbrev pub MayReplace : {D : Type 0} → Option D → Option D → Type 0
MayReplace before now = (now ≡ None) ⊎ (now ≡ before)

-- ---- between the parts of reading, for private clauses

-- a hasher has taken a prefix of these bytes, and the rest is left to be read
abbrev pub IsFed : List ℕ → Option (List ℕ) → Sha256 → Type 0
IsFed bytes None h = ⊥
IsFed bytes (Some left) h = (taken : List ℕ) × Holds256 h taken × (bytes ≡ taken ++ left)
