-- What is taken of a ravel.
use Rattle.std.specs.Prelude.{◌≡◌, ℕ, ◌≤◌, map, length, unsigned_abs}
use Rattle.apl_arrays.specs.Index.{bound_of, size_of}
use Rattle.apl_reshape.specs.declared.taking.Taking.{Taking}

-- as many counts as axes, of which the lengths are the magnitudes, within the limits, and so many elements are enough for the shape
pub record IsTaken (t : Taking) (count : ℕ) : Type 0 where
  pub axes : length t.shape.now ≡ length t.counts.now
  pub lengths : t.lengths.now ≡ map unsigned_abs t.counts.now
  pub room : size_of t.shape.now ≤ count
  pub shape_small : bound_of t.shape.now ≤ 1000000
  pub small : bound_of t.lengths.now ≤ 1000000
