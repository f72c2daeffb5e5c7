use Rattle.std.proofs.Common.{get_or, ap, sym, ◌∙◌}
use Rattle.std.proofs.Common.{◌==◌, ◌||◌}
use Rattle.apl_faults.specs.declared.fault.Fault.TheVariants.{Length}
use Rattle.apl_arrays.specs.Checks.{demand}
use Rattle.apl_arrays.specs.Numbers.{values}
use Rattle.apl_select.specs.Compress.{bits_of, ones}
use Rattle.apl_select.proofs.Choosing.{spread_below}
use Rattle.apl_select.proofs.compression.expand_along.Goals as goal

pub laid-requires-clause-places : goal.laid-requires-clause-places
laid-requires-clause-places c =
    spread_below c.args.a.now.items (values c.in_ok-bits.bits) (get_or c.args.shape.now c.args.axis 0) c.as_slice.result.now (c.as_slice.ensures.value ∙ c.in_ok-places.ensures)
    (ap bits_of (sym c.items-2.ensures.value) ∙ c.in_ok-bits.ensures.value)
    (ap (λ n. demand (get_or c.args.shape.now c.args.axis 0 == 1 || n == get_or c.args.shape.now c.args.axis 0) Length) (ap ones (sym c.items.ensures.value) ∙ sym c.ones.ensures) ∙ sym c.in_ok-fits_ones.ensures)
