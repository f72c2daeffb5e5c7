use Rattle.std.proofs.Common.{◌≡◌, ◌∙◌, ◌*◌, map, max, ap, drop, take, length, replicate, arith, rules, sym}
use Rattle.std.specs.Simd.Lanes.{zip2}
use Rattle.std.proofs.lemmas.List.{length-replicate}
use Rattle.apl_arrays.specs.Cells.{Numbers}
use Rattle.apl_arrays.specs.Numbers.{values}
use Rattle.apl_format.specs.Display.{number_text}
use Rattle.apl_format.proofs.Sizes.{row_within, length_part}
use Rattle.apl_format.proofs.Widths.{widths_none, widths_more, written_whole}
use Rattle.apl_format.proofs.columns.number_widths.Goals as goal

pub loop-row-init : goal.loop-row-init
loop-row-init c =
    let made : c.in_ok-widths.widths.items ≡ replicate c.args.columns 0 = search rules in
    record {
      wide = ap length made ∙ length-replicate c.args.columns 0;
      widest = made ∙ sym (widths_none c.args.columns (Numbers (values c.args.numbers)));
    }

pub row_at-requires : goal.row_at-requires
row_at-requires c = row_within c.loop-row.row c.args.count c.args.columns (length (values c.args.numbers)) c.loop-row-test.true c.requires

pub widen-requires : goal.widen-requires
widen-requires c =
    ap length c.deref_mut.ensures.value ∙ c.loop-row.invariant.wide
    ∙ sym (ap length c.row_at.ensures ∙ length_part (values c.args.numbers) (c.loop-row.row * c.args.columns) c.args.columns
    (row_within c.loop-row.row c.args.count c.args.columns (length (values c.args.numbers)) c.loop-row-test.true c.requires))

pub loop-row-preserved : goal.loop-row-preserved
loop-row-preserved c =
    let old : length c.loop-row.widths.items ≡ c.loop-row.widths.len = search rules in
    let kept : length c.widen.new.widths ≡ length c.deref_mut.result.now = c.widen.auto.widths in
    let whole = written_whole c.loop-row.widths.len c.widen.new.widths c.loop-row.widths.items (omega arith) old in
    record {
      wide = ap length whole ∙ omega arith;
      widest = whole ∙ c.widen.ensures
          ∙ ap (λ zs. zip2 max c.deref_mut.result.now (map (λ z. length (number_text z)) zs)) c.row_at.ensures
          ∙ ap (λ ws. zip2 max ws (map (λ z. length (number_text z)) (take c.args.columns (drop (c.loop-row.row * c.args.columns) (values c.args.numbers))))) (c.deref_mut.ensures.value ∙ c.loop-row.invariant.widest)
          ∙ sym (widths_more c.loop-row.row c.args.columns (Numbers (values c.args.numbers)));
    }
