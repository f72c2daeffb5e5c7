use Rattle.std.proofs.Common.{◌∙◌, ◌*◌, ◌++◌, length, sym, ap}
use Rattle.std.specs.List.{flat_map}
use Rattle.std.proofs.lemmas.List.{append-nil}
use Rattle.apl_arrays.specs.Cells.{Numbers}
use Rattle.apl_arrays.specs.Numbers.{values}
use Rattle.apl_format.specs.Display.{row_line}
use Rattle.apl_format.proofs.Sizes.{row_within, length_part}
use Rattle.apl_format.proofs.Rows.{rows_none, rows_step}
use Rattle.apl_format.proofs.formatted.push_rows.Goals as goal

pub loop-row-init : goal.loop-row-init
loop-row-init c = sym (ap (λ xs. c.args.characters.now.items ++ flat_map (row_line c.args.widths.now) xs) (rows_none (length c.args.widths.now) (Numbers (values c.args.numbers))) ∙ append-nil c.args.characters.now.items)

pub row_at-requires : goal.row_at-requires
row_at-requires c = row_within c.loop-row.row c.args.count (length c.args.widths.now) (length (values c.args.numbers)) c.loop-row-test.true c.requires

pub push_aligned-requires : goal.push_aligned-requires
push_aligned-requires c =
    let columns = length c.args.widths.now in
    sym (ap length c.row_at.ensures ∙ length_part (values c.args.numbers) (c.loop-row.row * columns) columns (row_within c.loop-row.row c.args.count columns (length (values c.args.numbers)) c.loop-row-test.true c.requires))

pub loop-row-preserved : goal.loop-row-preserved
unfolding row_line
loop-row-preserved c =
    rows_step (row_line c.args.widths.now) c.loop-row.row (length c.args.widths.now) (Numbers (values c.args.numbers)) c.args.characters.now.items c.loop-row.invariant
    (ap (λ zs. row_line c.args.widths.now (Numbers zs)) c.row_at.ensures) c.in_ok-push_aligned.ensures
