use Rattle.std.proofs.Common.{FitsSigned, w64, get_or, max, length, arith, rules, ap, ◌∙◌}
use Rattle.std.proofs.lemmas.Int.{to_z-of_z}
use Rattle.apl_arrays.specs.Numbers.{values}
use Rattle.apl_format.specs.Display.{number_text}
use Rattle.apl_format.proofs.Widths.{widen_more, widen_all}
use Rattle.apl_format.proofs.columns.widen.Goals as goal

pub loop-column-preserved : goal.loop-column-preserved
loop-column-preserved c =
    let fits : FitsSigned w64 c.at.result = search rules in
    widen_more (λ z. length (number_text z)) c.args.widths.now (values c.args.row) c.loop-column.column c.max.result c.requires (omega arith) c.loop-column.invariant
    (c.max.ensures ∙ ap (λ n. max (get_or c.loop-column.widths c.loop-column.column 0) n) (c.number_width.ensures ∙ ap (λ z. length (number_text z)) (to_z-of_z w64 c.at.result fits ∙ c.at.ensures)))

pub returns : goal.returns
returns c = widen_all (λ z. length (number_text z)) c.args.widths.now (values c.args.row) c.loop-column.column c.requires (omega arith) c.loop-column.invariant
