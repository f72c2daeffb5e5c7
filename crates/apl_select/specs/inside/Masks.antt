-- Zeros and ones that choose among elements.
use Rattle.std.specs.Prelude.{◌≡◌, ℕ, ℤ, ◌≤◌, List, length, true, Option}
use Rattle.std.specs.List.{list_all}
use Rattle.apl_select.specs.Compress.{is_bit, kept}

-- a 0 or a 1 for each of so many elements of an array
pub record AreBits (zs : List ℤ) (count : ℕ) : Type 0 where
  pub each : length zs ≡ count
  pub bits : list_all is_bit zs ≡ true
  pub few : count ≤ 1000000

-- the places at ones, of as many as there are zeros and ones
abbrev pub kept_all : List ℤ → List (Option ℕ)
kept_all bits = kept bits (length bits) (length bits)
