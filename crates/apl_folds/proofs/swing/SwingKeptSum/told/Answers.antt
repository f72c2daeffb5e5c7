use Rattle.std.proofs.Common.{rules, arith, ◌≡◌, ◌+ℤ◌, Ok, ap, sym, ◌∙◌, w64}
use Rattle.std.proofs.lemmas.Int.{ints, to_z-of_z}
use mir.Val.{SFits}
use Rattle.apl_folds.specs.inside.Reach.{signed, IsWithin}
use Rattle.apl_folds.proofs.swing.SwingKeptSum.told.Goals as goal

pub returns-clause-fold : goal.returns-clause-fold
returns-clause-fold c =
    λ numbers before.
    let low : SFits w64 c.args.self.least = search rules in
    let high : SFits w64 c.args.self.greatest = search rules in
    let known : SFits w64 c.args.self.fold = search rules in
    let fits : SFits w64 c.with.result = search rules in
    let within : IsWithin c.args.self c.args.number = (omega (arith, ints), omega (arith, ints)) in
    let value : c.with.result ≡ c.args.self.fold +ℤ signed c.args.self.less c.args.number = (simp (to_z-of_z, known, c.ranges.number) at c.with.ensures) (before.1.fits c.args.number within) in
    before.1.near c.args.number within ∙ ap (λ z. Ok z) (sym (to_z-of_z w64 c.with.result fits ∙ value))
