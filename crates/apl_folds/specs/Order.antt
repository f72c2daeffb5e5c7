-- Elements in row-major order.
use Rattle.apl_arrays.specs.Cells.{Items}
use Rattle.apl_arrays.specs.Left.{listed}
use Rattle.apl_folds.specs.declared.order.Ordered.{Ordered}
use Rattle.apl_folds.specs.declared.order.Ordered.TheVariants.{Borrowed, Copied}

-- the elements, wherever they lie
abbrev pub items_ordered : Ordered → Items
items_ordered (Borrowed elements) = listed elements
items_ordered (Copied a) = a.items
