-- Tables whose rows stand one after another.
use Rattle.std.specs.Prelude.{◌≡◌, ◌<◌, ◌+◌, ◌*◌, ℕ, ℤ, pos, List, length, slice_index_or}

-- the numbers are those of so many rows, and each is as it should be
pub record AreRows (P : ℕ → ℕ → ℤ → Type 0) (columns done : ℕ) (zs : List ℤ) : Type 0 where
  pub size : length zs ≡ done * columns
  pub each : (r : ℕ) → r < done → (q : ℕ) → q < columns → P r q (slice_index_or zs (r * columns + q) (pos 0))
