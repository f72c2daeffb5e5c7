-- Numbers in the lane of a kernel, and what is made of them so far.
use Rattle.std.specs.Prelude.{◌≡◌, ◌≤◌, ◌<◌, ◌+◌, ◌-◌, ℕ, ℤ, List, ◌++◌, length, FitsSigned, Result, Ok}
use Rattle.std.specs.Int.{Width}
use Rattle.apl_faults.specs.declared.fault.Fault.{Fault}
use Rattle.apl_arrays.specs.Numbers.{values}
use Rattle.apl_scalar.specs.declared.line.Laid.{Laid}
use Rattle.apl_scalar.specs.declared.line.Laid.TheVariants as laid
use Rattle.apl_scalar.specs.declared.operand.Source.{Source}
use Rattle.apl_scalar.specs.declared.operand.Source.TheVariants.{One, Lies, Narrow}
use Rattle.apl_scalar.specs.Operands.{Shown, Same, Each, number_at, values_of, AreValues, Covers, SomeHas}

-- the numbers of a source, by those of the lane's items
abbrev pub shown_in : {L : Type 0} → (L → ℤ) → (List L → List ℤ) → Source L → Shown
shown_in value numbers (One x) = Same (value x)
shown_in value numbers (Lies xs) = Each (numbers xs.now)
shown_in value numbers (Narrow xs) = Each (values xs)

-- the same where they lie in the lane
abbrev pub laid_in : {L : Type 0} → (L → ℤ) → (List L → List ℤ) → Laid L → Shown
laid_in value numbers (laid.One x) = Same (value x)
laid_in value numbers (laid.Many xs) = Each (numbers xs.now)

-- the second ones are the first ones for the places from one to another
abbrev pub IsPiece : Shown → ℕ → ℕ → Shown → Type 0
IsPiece a from till p = Covers p (till - from) × ((j : ℕ) → j < till - from → number_at p j ≡ number_at a (from + j))

-- no value fits so many bits
abbrev pub HasNoneIn : Width → Result ℤ Fault → Type 0
HasNoneIn w r = (z : ℤ) → r ≡ Ok z → FitsSigned w z → ⊥

-- there is a place below n at which no value of the numbers fits so many bits
abbrev pub SomeHasNoneIn : Width → (ℤ → ℤ → Result ℤ Fault) → (ℕ → ℤ) → (ℕ → ℤ) → ℕ → Type 0
SomeHasNoneIn w f x y n = SomeHas n (λ k. HasNoneIn w (f (x k) (y k)))

-- new is old with the values for the first places, at most n
abbrev pub AddsValues : (ℤ → ℤ → Result ℤ Fault) → (ℕ → ℤ) → (ℕ → ℤ) → ℕ → List ℤ → List ℤ → Type 0
AddsValues f x y n old new = (zs : List ℤ) × (new ≡ old ++ zs) × (length zs ≤ n) × AreValues f x y zs

-- the values for the places so far, of all below a count
abbrev pub IsBegun : (ℤ → ℤ → Result ℤ Fault) → (ℕ → ℤ) → (ℕ → ℤ) → ℕ → List ℤ → Type 0
IsBegun f x y count zs = (length zs ≤ count) × (values_of f x y (length zs) ≡ Ok zs)
