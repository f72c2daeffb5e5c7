-- Where the slots that name an axis lie means nothing.
use Rattle.std.proofs.Common.{◌≡◌, refl, ℕ, List, Option, Some, None, Result, subst}
use Rattle.std.specs.Borrow.{Bor}
use Rattle.apl_arrays.specs.Answers.{Answers}
use Rattle.apl_arrays.specs.declared.axis_choice.Along.TheVariants.{Named}
use Rattle.apl_arrays.specs.declared.stop.Stop.{Stop}
use Rattle.apl_arrays.specs.Along.{along_slots}
use Rattle.apl_arrays.specs.Cells.{Arr}
use Rattle.apl_scalar.specs.declared.function.Dyadic.{Dyadic as DyadicScalar}
use Rattle.apl_symbols.specs.declared.primitive.Operator.{Operator}
use Rattle.apl_symbols.specs.declared.primitive.Operator.TheVariants.{Slash, SlashBar, Slope, SlopeBar}
use Rattle.apl_primitives.specs.Values.{derived}

same_axis : (m : Operator) (g : Option DyadicScalar) (axis : Bor (List (Option Arr))) (b : Arr) (origin : ℕ) → derived m g (Named axis) b origin ≡ derived m g (along_slots axis.now) b origin
same_axis m None axis b origin = refl
same_axis Slash (Some g) axis b origin = refl
same_axis SlashBar (Some g) axis b origin = refl
same_axis Slope (Some g) axis b origin = refl
same_axis SlopeBar (Some g) axis b origin = refl

pub derived_named : (m : Operator) (g : Option DyadicScalar) (axis : Bor (List (Option Arr))) (b : Arr) (origin : ℕ) (r : Result Arr Stop) → Answers (λ a. a) (derived m g (Named axis) b origin) r → Answers (λ a. a) (derived m g (along_slots axis.now) b origin) r
derived_named m g axis b origin r h = subst (λ model. Answers (λ (a : Arr). a) model r) (same_axis m g axis b origin) h
