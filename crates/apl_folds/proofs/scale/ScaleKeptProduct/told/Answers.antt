use Rattle.std.proofs.Common.{rules, ◌≡◌, ◌*ℤ◌, ℤ, Ok, refl, ap, sym, ◌∙◌, w64}
use Rattle.std.proofs.lemmas.Int.{to_z-of_z}
use mir.Val.{SFits}
use Rattle.apl_folds.specs.inside.Reach.{IsSmall}
use Rattle.apl_folds.proofs.scale.ScaleKeptProduct.told.Goals as goal

pub returns-then-is_small-clause-fold : goal.returns-then-is_small-clause-fold
returns-then-is_small-clause-fold c =
    λ numbers before.
    let known : SFits w64 c.args.self.product = search rules in
    let fits : SFits w64 c.times.result = search rules in
    let small : IsSmall c.args.self c.args.number = simp (to_z-of_z, c.ranges.number) at (c.if-is_small.ensures.0 refl) in
    let value : c.times.result ≡ c.args.self.product *ℤ c.args.number = (simp (to_z-of_z, known, c.ranges.number) at c.times.ensures) (before.reaches.fits c.args.number small) in
    before.reaches.near c.args.number small ∙ ap (λ (z : ℤ). Ok z) (sym (to_z-of_z w64 c.times.result fits ∙ value))
