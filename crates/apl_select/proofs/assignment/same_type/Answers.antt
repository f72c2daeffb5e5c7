use Rattle.apl_arrays.specs.Left.{listed}
use Rattle.apl_select.proofs.Fits.{same_type_is}
use Rattle.apl_select.proofs.assignment.same_type.Goals as goal

pub returns : goal.returns
returns c = rw (c.is_numeric.ensures, c.is_numeric-2.ensures) (same_type_is (listed c.args.to) (listed c.args.from))
