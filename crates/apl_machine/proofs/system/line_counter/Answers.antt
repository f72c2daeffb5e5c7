use Rattle.std.proofs.Common.{◌≡◌, length, map, ap, arith}
use Rattle.std.proofs.lemmas.List.{length-map}
use Rattle.apl_contexts.specs.Contexts.{lines_in}
use Rattle.apl_arrays.specs.Cells.{Items, cells_of}
use Rattle.apl_arrays.specs.Ravels.{items_of}
use Rattle.apl_arrays.specs.declared.cell.Cell.TheVariants.{Num}
use Rattle.apl_machine.proofs.Few.{as_many_lines}
use Rattle.apl_machine.proofs.system.line_counter.Goals as goal

pub vector-requires : goal.vector-requires
vector-requires c =
    let numbers = c.in_ok-numbers.numbers.items in
    let same : length numbers ≡ length (lines_in c.args.contexts.now) = ap length c.in_ok-numbers.ensures in
    let cells : length (cells_of (items_of c.wide.result)) ≡ length (map Num numbers) = ap (λ (i : Items). length (cells_of i)) c.wide.ensures in
    omega (arith, same, cells, length-map numbers Num, as_many_lines c.args.contexts.now, c.requires.few)
