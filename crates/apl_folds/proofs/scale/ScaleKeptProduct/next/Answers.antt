use Rattle.std.proofs.Common.{◌≡◌, ◌*ℤ◌, ℤ, Result, Ok, sym, ◌∙◌}
use Rattle.std.proofs.lemmas.Int.{to_z-of_z}
use Rattle.apl_faults.specs.declared.fault.Fault.{Fault}
use Rattle.apl_folds.proofs.Reach.{scale_next}
use Rattle.apl_folds.proofs.scale.ScaleKeptProduct.next.Goals as goal

abbrev ok_number : ℤ → Result ℤ Fault
ok_number z = Ok z

same : (a b : ℤ) → ok_number a ≡ Ok b → a ≡ b
same a b e = cc

pub returns : goal.returns
returns c =
    λ numbers before.
    let value : c.args.fold ≡ c.args.self.product *ℤ c.args.number = same _ _ (sym (c.requires.fold numbers before) ∙ before.reaches.near c.args.number c.requires.told) in
    let product : c.with.result.product ≡ c.args.fold = simp (to_z-of_z, c.ranges.fold) at c.with.ensures.product in
    scale_next numbers c.args.self c.with.result c.args.number (product ∙ value) (simp (to_z-of_z, c.ranges.number) at c.with.ensures.zero)
    (simp (to_z-of_z, c.ranges.number) at c.with.ensures.positive) (simp (to_z-of_z, c.ranges.number) at c.with.ensures.negative) before
