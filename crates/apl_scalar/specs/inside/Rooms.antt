-- Room for the numbers of a block.
use Rattle.std.specs.Prelude.{◌≡◌, ◌≤◌, ◌<◌, ◌-◌, ◌*◌, ◌^◌, ℕ, ℤ, pos, List, length, take, slice_index_or, slice_range}
use denote.RattleType.{RattleType}
use Rattle.std.specs.Mem.{type_size}
use Rattle.apl_arrays.specs.Numbers.{values}
use Rattle.apl_scalar.specs.declared.operand.Source.{Source}
use Rattle.apl_scalar.specs.declared.operand.Source.TheVariants.{One, Lies, Narrow}

-- memory can hold so many items of a type
abbrev pub HasRoom : RattleType → ℕ → Type 0
HasRoom R n = n * type_size R < 2 ^ 63

-- each number is this one
abbrev pub IsEach : ℤ → List ℤ → Type 0
IsEach x zs = (k : ℕ) → k < length zs → slice_index_or zs k (pos 0) ≡ x

-- there is room for so many numbers where they don't lie in the lane; one number is at each place of it, or there is none
abbrev pub IsReady : {L : Type 0} → (L → ℤ) → Source L → ℕ → List ℤ → Type 0
IsReady value (One x) n room = (0 < length room → n ≤ length room) × IsEach (value x) room
IsReady value (Lies xs) n room = Unit {0}
IsReady value (Narrow xs) n room = n ≤ length room

-- the numbers for the places from one to another are where they lie, or else in the room
abbrev pub Holds : {L : Type 0} → (L → ℤ) → Source L → ℕ → ℕ → List ℤ → Type 0
Holds value (Narrow xs) from till room = take (till - from) room ≡ slice_range (values xs) from till
Holds value source from till room = IsReady value source (till - from) room
