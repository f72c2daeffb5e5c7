use Rattle.std.proofs.Common.{refl, ap, ◌∙◌}
use Rattle.apl_arrays.specs.Index.{size_of}
use Rattle.apl_arrays.specs.Ravels.{items_of}
use Rattle.apl_loading.proofs.OneArray.{no_array}
use Rattle.apl_loading.proofs.arrays.ArrayFieldField.read.Goals as goal

pub returns-then-len-size-clause-refused : goal.returns-then-len-size-clause-refused
returns-then-len-size-clause-refused c m = (refl, no_array c.args.self.now (items_of c.in_ok-ravel.ravel) c.len.result c.size.result c.in_ok-ravel.ensures.found c.len.ensures (c.size.ensures ∙ ap size_of c.as_slice-shape.ensures) c.if-len-size.true)
