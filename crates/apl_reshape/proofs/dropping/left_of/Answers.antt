use Rattle.std.proofs.Common.{length, ap, sym, ◌∙◌}
use Rattle.apl_reshape.specs.Take.{each_axis, left_from, left_length}
use Rattle.apl_reshape.proofs.Axes.{length-each, fits_within}
use Rattle.apl_reshape.proofs.dropping.left_of.Goals as goal

pub part_of-requires-clause-froms : goal.part_of-requires-clause-froms
part_of-requires-clause-froms c =
    ap length (c.as_slice.ensures.value ∙ c.asked_of_each-starts.ensures ∙ ap (λ s. each_axis left_from s c.args.counts.now) c.shape-shape.ensures.value) ∙ length-each left_from c.args.b.now.shape c.args.counts.now (sym c.requires)

pub part_of-requires-clause-lens : goal.part_of-requires-clause-lens
part_of-requires-clause-lens c =
    ap length (c.as_slice-2.ensures.value ∙ c.asked_of_each-lengths.ensures ∙ ap (λ s. each_axis left_length s c.args.counts.now) c.shape-shape.ensures.value) ∙ length-each left_length c.args.b.now.shape c.args.counts.now (sym c.requires)

pub part_of-requires-clause-within : goal.part_of-requires-clause-within
part_of-requires-clause-within c =
    fits_within c.as_slice.result.now c.as_slice-2.result.now c.args.b.now.shape c.args.counts.now
    (c.as_slice.ensures.value ∙ c.asked_of_each-starts.ensures ∙ ap (λ s. each_axis left_from s c.args.counts.now) c.shape-shape.ensures.value)
    (c.as_slice-2.ensures.value ∙ c.asked_of_each-lengths.ensures ∙ ap (λ s. each_axis left_length s c.args.counts.now) c.shape-shape.ensures.value)
