use Rattle.std.proofs.Common.{length, replicate, refl, ap, sym, ◌∙◌, ◌≡◌, arith}
use Rattle.std.proofs.lemmas.List.{length-replicate}
use Rattle.apl_arrays.specs.Cells.{Items, cells_of}
use Rattle.apl_arrays.specs.Index.{bound_of, size_of}
use Rattle.apl_arrays.specs.Left.{listed}
use Rattle.apl_reshape.specs.Reshape.{taken_round}
use Rattle.apl_reshape.specs.Take.{each_axis, left_length}
use Rattle.apl_reshape.proofs.InRounds.{length-round, made_round}
use Rattle.apl_reshape.proofs.Scalars.{bound-left, left_of_one, length-left}
use Rattle.apl_reshape.proofs.dropping.left_of_scalar.Goals as goal

pub asked_of_each-lengths-requires-clause-axes : goal.asked_of_each-lengths-requires-clause-axes
asked_of_each-lengths-requires-clause-axes c = ap length (c.as_slice.ensures.value ∙ c.ones-axes.ensures) ∙ length-replicate (length c.args.counts.now) 1

pub asked_of_each-lengths-requires-clause-few : goal.asked_of_each-lengths-requires-clause-few
asked_of_each-lengths-requires-clause-few c =
    let axes : length c.as_slice.result.now ≡ length c.args.counts.now = ap length (c.as_slice.ensures.value ∙ c.ones-axes.ensures) ∙ length-replicate (length c.args.counts.now) 1 in
    omega (arith, c.requires.few)

pub size-requires : goal.size-requires
size-requires c =
    let left : c.as_slice-2.result.now ≡ each_axis left_length (replicate (length c.args.counts.now) 1) c.args.counts.now =
    c.as_slice-2.ensures.value ∙ c.asked_of_each-lengths.ensures ∙ ap (λ s. each_axis left_length s c.args.counts.now) (c.as_slice.ensures.value ∙ c.ones-axes.ensures) in
    omega (arith, ap bound_of left, bound-left (length c.args.counts.now) c.args.counts.now)

pub in_shape-requires-clause-full : goal.in_shape-requires-clause-full
in_shape-requires-clause-full c =
    ap (λ (m : Items). length (cells_of m)) (c.in_ok-left.ensures ∙ made_round c.size.result (listed c.items.result)) ∙ length-round c.size.result (listed c.items.result) ∙ c.size.ensures ∙ ap size_of (c.as_slice-2.ensures.value ∙ sym c.as_slice-3.ensures.value)

pub in_shape-requires-clause-few : goal.in_shape-requires-clause-few
in_shape-requires-clause-few c =
    let left : c.as_slice-3.result.now ≡ each_axis left_length (replicate (length c.args.counts.now) 1) c.args.counts.now =
    c.as_slice-3.ensures.value ∙ c.asked_of_each-lengths.ensures ∙ ap (λ s. each_axis left_length s c.args.counts.now) (c.as_slice.ensures.value ∙ c.ones-axes.ensures) in
    omega (arith, ap length left, length-left (length c.args.counts.now) c.args.counts.now refl, c.requires.few)

pub in_shape-requires-clause-small : goal.in_shape-requires-clause-small
in_shape-requires-clause-small c =
    let left : c.as_slice-3.result.now ≡ each_axis left_length (replicate (length c.args.counts.now) 1) c.args.counts.now =
    c.as_slice-3.ensures.value ∙ c.asked_of_each-lengths.ensures ∙ ap (λ s. each_axis left_length s c.args.counts.now) (c.as_slice.ensures.value ∙ c.ones-axes.ensures) in
    omega (arith, ap bound_of left, bound-left (length c.args.counts.now) c.args.counts.now)

pub returns : goal.returns
returns c =
    let left : c.as_slice-3.result.now ≡ each_axis left_length (replicate (length c.args.counts.now) 1) c.args.counts.now =
    c.as_slice-3.ensures.value ∙ c.asked_of_each-lengths.ensures ∙ ap (λ s. each_axis left_length s c.args.counts.now) (c.as_slice.ensures.value ∙ c.ones-axes.ensures) in
    let count : c.size.result ≡ size_of c.as_slice-3.result.now = c.size.ensures ∙ ap size_of (c.as_slice-2.ensures.value ∙ sym c.as_slice-3.ensures.value) in
    c.in_ok-in_shape.ensures.value
    ∙ ap (λ (i : Items). record { shape = c.as_slice-3.result.now; items = i }) (c.in_ok-left.ensures ∙ made_round c.size.result (listed c.items.result) ∙ ap (λ n. taken_round n (listed c.items.result)) count ∙ ap (taken_round (size_of c.as_slice-3.result.now)) c.items.ensures.value)
    ∙ left_of_one c.args.b.now c.args.counts.now c.as_slice-3.result.now (length c.args.counts.now) refl c.requires.scalar c.items.ensures.full left
