-- The elements of an operand by the places of the result.
use Rattle.std.specs.Prelude.{◌≡◌, ◌≢◌, ◌≤◌, ◌<◌, ℕ, ℤ, pos, Bool, cond, nat_eq, List, [], ◌∷◌, length, slice_index_or, Result, Ok, IsErr}
use Rattle.std.specs.List.{range_with_len}
use Rattle.apl_faults.specs.declared.fault.Fault.{Fault}
use Rattle.apl_arrays.specs.Cells.{Items, Numbers, Characters}
use Rattle.apl_arrays.specs.Numbers.{values}
use Rattle.apl_arrays.specs.Results.{all_ok}
use Rattle.apl_scalar.specs.declared.characters.Verdicts.{Verdicts}
use Rattle.apl_scalar.specs.declared.operand.Operand.{Operand}
use Rattle.apl_scalar.specs.declared.operand.Operand.TheVariants.{One, Many}
use Rattle.apl_scalar.specs.Functions.{number_of}

-- one number for each place of the result, or one that serves at all of them
pub data Shown : Type 0 where
  Same : ℤ → Shown
  Each : List ℤ → Shown

-- the numbers of an operand, whatever type stores them
abbrev pub shown : Operand → Shown
shown (One x) = Same x
shown (Many xs) = Each (values xs)

-- the number for a place
abbrev pub number_at : Shown → ℕ → ℤ
number_at (Same x) k = x
number_at (Each xs) k = slice_index_or xs k (pos 0)

-- the value of those for each place below n, or the first fault
abbrev pub values_of : (ℤ → ℤ → Result ℤ Fault) → (ℕ → ℤ) → (ℕ → ℤ) → ℕ → Result (List ℤ) Fault
values_of f x y n = all_ok (λ k. f (x k) (y k)) (range_with_len 0 n)

-- each number is the value of those for its place
abbrev pub AreValues : (ℤ → ℤ → Result ℤ Fault) → (ℕ → ℤ) → (ℕ → ℤ) → List ℤ → Type 0
AreValues f x y zs = (k : ℕ) → k < length zs → f (x k) (y k) ≡ Ok (slice_index_or zs k (pos 0))

-- there is a place below n of which this holds
abbrev pub SomeHas : ℕ → (ℕ → Type 0) → Type 0
SomeHas n P = (k : ℕ) × (k < n) × P k

-- there is a place below n at which the numbers have no value
abbrev pub SomeHasNone : (ℤ → ℤ → Result ℤ Fault) → (ℕ → ℤ) → (ℕ → ℤ) → ℕ → Type 0
SomeHasNone f x y n = SomeHas n (λ k. IsErr (f (x k) (y k)))

-- there is a number for each place below n
abbrev pub Covers : Shown → ℕ → Type 0
Covers (Same x) n = Unit {0}
Covers (Each xs) n = n ≤ length xs

-- they stand for an array's elements, of which a single one serves at each place
abbrev pub Shows : Shown → Items → Type 0
Shows (Same x) items = items ≡ Numbers (x ∷ [])
Shows (Each xs) items = (items ≡ Numbers xs) × (length xs ≢ 1)

-- the character for a place, of which a single one serves at each
abbrev pub character_at : List ℕ → ℕ → ℕ
character_at cs k = slice_index_or cs (cond (nat_eq (length cs) 1) 0 k) 0

-- what is answered for two elements by whether they are the same
abbrev pub verdict : Verdicts → Bool → ℤ
verdict v same = cond same v.same v.other

-- the number at each place is the verdict there
abbrev pub AreVerdicts : Verdicts → (ℕ → Bool) → List ℤ → Type 0
AreVerdicts v same zs = (k : ℕ) → k < length zs → slice_index_or zs k (pos 0) ≡ verdict v (same k)

-- an array's elements are characters
abbrev pub AreCharacters : Items → Type 0
AreCharacters (Numbers zs) = ⊥
AreCharacters (Characters cs) = Unit {0}

-- a number stands for true or false
abbrev pub IsTruth : ℤ → Type 0
IsTruth z = (p : Bool) × (z ≡ number_of p)
