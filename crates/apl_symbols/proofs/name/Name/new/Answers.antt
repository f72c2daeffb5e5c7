use Rattle.std.proofs.Common.{arith, ◌∙◌, ap}
use Rattle.apl_symbols.specs.Short.{short_of}
use Rattle.apl_symbols.proofs.Names.{laid_over, front_of}
use Rattle.apl_symbols.proofs.name.Name.new.Goals as goal

pub invariant_of-result : goal.invariant_of-result
invariant_of-result c = (
  laid_over _ _ _ c.copy_from_slice.ensures.after c.default-padded.ensures (omega arith),
  c.short_of.ensures ∙ ap short_of (front_of _ _ _ c.copy_from_slice.ensures.after),
)
