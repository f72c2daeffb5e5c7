-- Folds as they depend on the last number.
use Rattle.std.specs.Prelude.{◌≡◌, ◌⊎◌, ◌<◌, ◌≤◌, ◌^◌, ◌+ℤ◌, ◌-ℤ◌, ◌*ℤ◌, ◌≤ℤ◌, ◌<ℤ◌, ℤ, pos, negsuc, Bool, true, false, FitsSigned, List, [], ◌∷◌, ◌++◌, Result, Ok, Err}
use Rattle.std.specs.Int.{w64}
use Rattle.apl_faults.specs.declared.fault.Fault.{Fault}
use Rattle.apl_faults.specs.declared.fault.Fault.TheVariants.{Limit}
use Rattle.apl_folds.specs.declared.scale.Scale.{Scale}
use Rattle.apl_folds.specs.declared.swing.Swing.{Swing}
use Rattle.apl_folds.specs.Lines.{fold_by}

-- with a number in reach behind these the fold is this value of it, and with any other it is a limit fault
pub record Reaches (f : ℤ → ℤ → Result ℤ Fault) (xs : List ℤ) (Near Far : ℤ → Type 0) (value : ℤ → ℤ) : Type 0 where
  pub fits : (x : ℤ) → Near x → FitsSigned w64 (value x)
  pub near : (x : ℤ) → Near x → fold_by f (xs ++ x ∷ []) ≡ Ok (value x)
  pub far : (x : ℤ) → FitsSigned w64 x → Far x → fold_by f (xs ++ x ∷ []) ≡ Err Limit

-- a number as it is, or its opposite
abbrev pub signed : Bool → ℤ → ℤ
signed false z = z
signed true z = pos 0 -ℤ z

-- from the least to the greatest that may come
abbrev pub IsWithin : Swing → ℤ → Type 0
IsWithin s x = (s.least ≤ℤ x) × (x ≤ℤ s.greatest)

abbrev pub IsBeyond : Swing → ℤ → Type 0
IsBeyond s x = (x <ℤ s.least) ⊎ (s.greatest <ℤ x)

-- the fold with a number more, or less it
abbrev pub IsSwing : (ℤ → ℤ → Result ℤ Fault) → Swing → List ℤ → Type 0
IsSwing f s xs = Reaches f xs (IsWithin s) (IsBeyond s) (λ x. s.fold +ℤ signed s.less x)

-- of a magnitude that may come
abbrev pub IsSmall : Scale → ℤ → Type 0
IsSmall s (pos n) = n ≤ s.above
IsSmall s (negsuc n) = n < s.below

abbrev pub IsLarge : Scale → ℤ → Type 0
IsLarge s (pos n) = s.above < n
IsLarge s (negsuc n) = s.below ≤ n

-- the product with a number more
pub record IsScale (f : ℤ → ℤ → Result ℤ Fault) (s : Scale) (xs : List ℤ) : Type 0 where
  pub below : s.below ≤ 2 ^ 63
  pub above : s.above < 2 ^ 63
  pub reaches : Reaches f xs (IsSmall s) (IsLarge s) (λ x. s.product *ℤ x)
