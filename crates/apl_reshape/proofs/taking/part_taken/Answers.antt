use Rattle.std.proofs.Common.{◌≡◌, IfOk, length, unsigned_abs, ap, subst, sym, ◌∙◌}
use Rattle.std.proofs.lemmas.List.{length-map}
use Rattle.apl_reshape.specs.inside.Asked.{taken_start}
use Rattle.apl_reshape.specs.Take.{each_axis}
use Rattle.apl_reshape.proofs.Axes.{length-each}
use Rattle.apl_reshape.proofs.Enough.{enough_axes, fits_taken, taken_part}
use Rattle.apl_reshape.proofs.taking.part_taken.Goals as goal

pub asked_of_each-starts-requires-clause-axes : goal.asked_of_each-starts-requires-clause-axes
asked_of_each-starts-requires-clause-axes c =
    ap length c.shape.ensures.value ∙ enough_axes c.args.b.now.shape c.args.lengths.now c.requires.enough ∙ ap length c.requires.lengths ∙ length-map c.args.counts.now unsigned_abs

pub part_of-requires-clause-froms : goal.part_of-requires-clause-froms
part_of-requires-clause-froms c =
    ap length (c.as_slice.ensures.value ∙ c.asked_of_each-starts.ensures ∙ ap (λ s. each_axis taken_start s c.args.counts.now) c.shape.ensures.value)
    ∙ length-each taken_start c.args.b.now.shape c.args.counts.now (enough_axes c.args.b.now.shape c.args.lengths.now c.requires.enough ∙ ap length c.requires.lengths ∙ length-map c.args.counts.now unsigned_abs)

pub part_of-requires-clause-lens : goal.part_of-requires-clause-lens
part_of-requires-clause-lens c = sym (enough_axes c.args.b.now.shape c.args.lengths.now c.requires.enough)

pub part_of-requires-clause-within : goal.part_of-requires-clause-within
part_of-requires-clause-within c =
    fits_taken c.as_slice.result.now c.args.lengths.now c.args.b.now.shape c.args.counts.now
    (c.as_slice.ensures.value ∙ c.asked_of_each-starts.ensures ∙ ap (λ s. each_axis taken_start s c.args.counts.now) c.shape.ensures.value) c.requires.lengths c.requires.enough

pub returns : goal.returns
returns c =
    let same = taken_part c.args.b.now c.args.counts.now c.as_slice.result.now c.args.lengths.now
    (c.as_slice.ensures.value ∙ c.asked_of_each-starts.ensures ∙ ap (λ s. each_axis taken_start s c.args.counts.now) c.shape.ensures.value) c.requires.lengths c.shape.ensures.array.full c.requires.enough in
    subst (λ made. IfOk c.part_of.result (λ r. r ≡ made)) same c.part_of.ensures
