use Rattle.std.proofs.Common.{rules, ◌≡◌, ◌+ℤ◌, ◌-ℤ◌, ℤ, Result, Ok, refl, sym, ◌∙◌, w64, to_z, of_z}
use Rattle.std.specs.Int.{saturate_signed}
use Rattle.std.proofs.lemmas.Int.{to_z-of_z}
use mir.Val.{SFits}
use Rattle.apl_faults.specs.declared.fault.Fault.{Fault}
use Rattle.apl_folds.specs.inside.Reach.{signed}
use Rattle.apl_folds.proofs.Reach.{sum_next}
use Rattle.apl_folds.proofs.swing.SwingKeptSum.next.Goals as goal

abbrev ok_number : ℤ → Result ℤ Fault
ok_number z = Ok z

same : (a b : ℤ) → ok_number a ≡ Ok b → a ≡ b
same a b e = cc

pub returns : goal.returns
returns c =
    λ numbers before.
    let low : SFits w64 c.args.self.least = search rules in
    let high : SFits w64 c.args.self.greatest = search rules in
    let fits_least : SFits w64 c.saturating_sub.result = search rules in
    let fits_greatest : SFits w64 c.saturating_sub-2.result = search rules in
    let value : c.args.fold ≡ c.args.self.fold +ℤ signed c.args.self.less c.args.number = same _ _ (sym (c.requires.fold numbers before) ∙ before.1.near c.args.number c.requires.told) in
    let least : c.saturating_sub.result ≡ saturate_signed w64 (c.args.self.least -ℤ c.args.number) = simp (to_z-of_z, low, high, c.ranges.number) at c.saturating_sub.ensures in
    let greatest : c.saturating_sub-2.result ≡ saturate_signed w64 (c.args.self.greatest -ℤ c.args.number) = simp (to_z-of_z, low, high, c.ranges.number) at c.saturating_sub-2.ensures in (
      before.0,
      sum_next numbers c.args.self (record { fold = to_z w64 (of_z w64 c.args.fold); less = c.args.self.less; least = to_z w64 (of_z w64 c.saturating_sub.result); greatest = to_z w64 (of_z w64 c.saturating_sub-2.result) }) c.args.number low high c.requires.told
          before.0 refl (to_z-of_z w64 c.args.fold c.ranges.fold ∙ value) (to_z-of_z w64 c.saturating_sub.result fits_least ∙ least) (to_z-of_z w64 c.saturating_sub-2.result fits_greatest ∙ greatest) before.1,
    )
