use Rattle.std.proofs.Common.{◌≡◌, ◌<ℤ◌, ◌≤ℤ◌, ◌⊎◌, ◌<◌, ℕ, length, pos, Ok, FitsSigned, rules, w64}
use Rattle.std.specs.Prelude.{IsErr}
use Rattle.std.proofs.lemmas.Int.{to_z-of_z}
use Rattle.apl_scalar.proofs.Exact.{each_step}
use Rattle.apl_scalar.proofs.Flags.{raised_at}
use Rattle.apl_scalar.proofs.in_wide.InWide.fill_tried.Goals as goal

pub loop-i-preserved : goal.loop-i-preserved
loop-i-preserved g c =
    let f = λ (k : ℕ). g.Self.Scalar.meaning (g.X.Line.number c.args.x k) (g.Y.Line.number c.args.y k) in
    let at = g.Self.Scalar.meaning c.at.result c.at-in-loop-i.result in
    let i = c.loop-i.i in
    let within : i < length c.loop-i.out = search rules in
    let fits : FitsSigned w64 c.either-flags.result = search rules in
    let fits_value : FitsSigned w64 c.tried-value.result.0 = search rules in
    let fits_flag : FitsSigned w64 c.tried-value.result.1 = search rules in
    let fits_x : FitsSigned w64 c.at.result = search rules in
    let fits_y : FitsSigned w64 c.at-in-loop-i.result = search rules in
    let neither : pos 0 ≤ℤ c.either-flags.result → (pos 0 ≤ℤ c.loop-i.flags) × (pos 0 ≤ℤ c.tried-value.result.1) = simp (c.loop-i.flags-is, to_z-of_z, fits_flag) at c.either-flags.ensures.neither in
    let one : c.either-flags.result <ℤ pos 0 → (c.loop-i.flags <ℤ pos 0) ⊎ (c.tried-value.result.1 <ℤ pos 0) = simp (c.loop-i.flags-is, to_z-of_z, fits_flag) at c.either-flags.ensures.one in
    let value : pos 0 ≤ℤ c.tried-value.result.1 → at ≡ Ok c.tried-value.result.0 = simp (to_z-of_z, fits_x, fits_y) at c.tried-value.ensures.value in
    let none : c.tried-value.result.1 <ℤ pos 0 → IsErr at = simp (to_z-of_z, fits_x, fits_y) at c.tried-value.ensures.none in
    let value_here = rw (c.at.ensures, c.at-in-loop-i.ensures) at value in
    let none_here = rw (c.at.ensures, c.at-in-loop-i.ensures) at none in
    let before = simp c.loop-i.flags-is at c.loop-i.invariant in (
      simp (to_z-of_z, fits, fits_value) (λ h. each_step (λ k z. f k ≡ Ok z) i c.loop-i.out c.tried-value.result.0 within (before.0 (neither h).0) (value_here (neither h).1)),
      simp (to_z-of_z, fits) (λ h. raised_at (λ k. IsErr (f k)) i c.loop-i.flags c.tried-value.result.1 (one h) before.1 none_here),
    )
