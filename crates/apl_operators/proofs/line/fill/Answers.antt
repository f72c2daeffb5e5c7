use Rattle.std.proofs.Common.{◌<ℤ◌, ◌≤ℤ◌, ◌⊎◌, ◌↔◌, ℤ, pos, rules, arith, w64}
use Rattle.std.proofs.lemmas.Int.{ints, to_z-of_z}
use mir.Val.{SFits}
use Rattle.apl_scalar.proofs.Flags.{raised_at}
use Rattle.apl_operators.proofs.line.fill.Goals as goal

pub loop-i-preserved : goal.loop-i-preserved
loop-i-preserved g c =
    let fits : SFits w64 c.either-flags.result = search rules in
    let fits_flag : SFits w64 c.attempt-value.result.1 = search rules in
    let fits_x : SFits w64 c.at.result = search rules in
    let fits_y : SFits w64 c.at-in-loop-i.result = search rules in
    let one : c.either-flags.result <ℤ pos 0 → (c.loop-i.flags <ℤ pos 0) ⊎ (c.attempt-value.result.1 <ℤ pos 0) = simp (c.loop-i.flags-is, to_z-of_z, fits_flag) at c.either-flags.ensures.one in
    let found : pos 0 ≤ℤ c.attempt-value.result.1 ↔ g.F.Attempt.finds c.at.result c.at-in-loop-i.result = simp (to_z-of_z, fits_x, fits_y) at c.attempt-value.ensures.found in
    let back : g.F.Attempt.finds (g.X.Line.number c.args.x.now c.loop-i.i) (g.Y.Line.number c.args.y.now c.loop-i.i) → pos 0 ≤ℤ c.attempt-value.result.1 = rw (c.at.ensures, c.at-in-loop-i.ensures) at found.1 in (
      search rules,
      simp (to_z-of_z, fits) (λ h. raised_at (λ k. g.F.Attempt.finds (g.X.Line.number c.args.x.now k) (g.Y.Line.number c.args.y.now k) → ⊥) c.loop-i.i c.loop-i.flags c.attempt-value.result.1
          (one h) (simp c.loop-i.flags-is at c.loop-i.invariant.1) (λ n f. not_both c.attempt-value.result.1 n (back f))),
    )
  where
    not_both : (z : ℤ) → z <ℤ pos 0 → pos 0 ≤ℤ z → ⊥
    not_both z n p = omega (arith, ints)
