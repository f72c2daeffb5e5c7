-- Arrays as finite maps from index lists.
use Rattle.std.specs.Prelude.{◌≡◌, ◌≤◌, ◌↔◌, ℕ, ℤ, Bool, true, false, List, length, Some, IsSome, FitsSigned}
use Rattle.std.specs.Int.{w64}
use Rattle.apl_charset.specs.Set.{is_member}
use Rattle.apl_arrays.specs.declared.cell.Cell.{Cell}
use Rattle.apl_arrays.specs.declared.cell.Cell.TheVariants.{Num, Char}
use Rattle.apl_arrays.specs.Index.{bound_of}
use Rattle.apl_arrays.specs.Cells.{Arr, IsArray, cell_at}
use Rattle.apl_arrays.specs.Kinds.{are_numbers}
use Rattle.apl_array_laws.specs.IndexLists.{LiesWithin}

-- an array: its shape is within the limits, and its elements are as many as its index lists, and can be stored
abbrev pub IsAnArray : Arr → Type 0
IsAnArray a = IsArray a.shape a.items

-- an element is a number
abbrev pub is_number : Cell → Bool
is_number (Num z) = true
is_number (Char c) = false

-- a shape of at most 8 axes and 1,000,000 elements, where an axis of length 0 counts as 1
pub record IsLimited (shape : List ℕ) : Type 0 where
  pub few_axes : length shape ≤ 8
  pub small : bound_of shape ≤ 1000000

-- an array of this shape and type, with these elements
pub record Maps (shape : List ℕ) (numeric : Bool) (element : List ℕ → Cell) (a : Arr) : Type 0 where
  pub array : IsAnArray a
  pub shape_is : a.shape ≡ shape
  pub type_is : are_numbers a.items ≡ numeric
  pub elements : (index : List ℕ) → LiesWithin shape index → cell_at a index ≡ Some (element index)

-- the numbers at the index lists of a shape fit 64 bits
abbrev pub AllFit : List ℕ → (List ℕ → ℤ) → Type 0
AllFit shape number = (index : List ℕ) → LiesWithin shape index → FitsSigned w64 (number index)

-- the characters at the index lists of a shape are of the set
abbrev pub AllInSet : List ℕ → (List ℕ → ℕ) → Type 0
AllInSet shape character = (index : List ℕ) → LiesWithin shape index → is_member (character index) ≡ true

-- ---- what is promised

-- an array has elements just at the index lists within its shape
abbrev pub HaveElements : Type 0
HaveElements = (a : Arr) (index : List ℕ) → IsAnArray a → IsSome (cell_at a index) ↔ LiesWithin a.shape index

-- each element is of the array's type
abbrev pub HaveOneType : Type 0
HaveOneType = (a : Arr) (index : List ℕ) (c : Cell) → cell_at a index ≡ Some c → is_number c ≡ are_numbers a.items

-- arrays of one shape and one type with the same elements are equal
abbrev pub AreEqual : Type 0
AreEqual = (a b : Arr) → IsAnArray a → IsAnArray b → a.shape ≡ b.shape → are_numbers a.items ≡ are_numbers b.items
    → ((index : List ℕ) → LiesWithin a.shape index → cell_at a index ≡ cell_at b index) → a ≡ b

-- numbers that fit 64 bits, at the index lists of a shape within the limits, are some array
abbrev pub NumbersAreArrays : Type 0
NumbersAreArrays = (shape : List ℕ) (number : List ℕ → ℤ) → IsLimited shape → AllFit shape number
    → (a : Arr) × Maps shape true (λ index. Num (number index)) a

-- characters of the set are too
abbrev pub TextsAreArrays : Type 0
TextsAreArrays = (shape : List ℕ) (character : List ℕ → ℕ) → IsLimited shape → AllInSet shape character
    → (a : Arr) × Maps shape false (λ index. Char (character index)) a
