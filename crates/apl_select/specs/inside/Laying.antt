-- Elements laid plane by plane.
-- They are the elements that `Lined` takes index by index.
use Rattle.std.specs.Prelude.{◌≡◌, ℕ, ◌+◌, ◌*◌, ◌^◌, ◌<◌, List, map, Option, None, Some}
use Rattle.std.specs.Option.{option_map}
use Rattle.std.specs.List.{flat_map, range_with_len, All}
use Rattle.apl_select.specs.declared.lines.Laying.{Laying}

-- what e makes of the places in a block of so many, of the row `first` and a place together
abbrev pub block_of : {A : Type 0} → (Option ℕ → A) → ℕ → ℕ → Option ℕ → List A
block_of e first block place = map (λ j. e (option_map (λ k. (first + k) * block + j) place)) (range_with_len 0 block)

-- the blocks of all places along the axis
abbrev pub plane_of : {A : Type 0} → (Option ℕ → A) → ℕ → ℕ → List (Option ℕ) → List A
plane_of e first block places = flat_map (block_of e first block) places

-- so many planes, each of so many rows
abbrev pub planes_of : {A : Type 0} → (Option ℕ → A) → ℕ → ℕ → List (Option ℕ) → ℕ → List A
planes_of e length block places planes = flat_map (λ p. plane_of e (p * length) block places) (range_with_len 0 planes)

-- a place, if there is one, is below n
abbrev pub IsBelow : ℕ → Option ℕ → Type 0
IsBelow n None = Unit {0}
IsBelow n (Some k) = k < n

-- so many elements lie as the layout says, and the places are on the axis
pub record IsLaid (l : Laying) (count : ℕ) : Type 0 where
  pub whole : count ≡ l.layout.planes * (l.layout.length * l.layout.block)
  pub near : l.layout.planes * l.layout.length < 2 ^ 62
  pub places : All (IsBelow l.layout.length) l.places.now
