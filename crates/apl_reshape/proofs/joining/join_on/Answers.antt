use Rattle.std.proofs.Common.{◌≡◌, length, ap, ◌∙◌, arith}
use Rattle.apl_arrays.proofs.Exits.{answers_along, first_along}
use Rattle.apl_reshape.specs.Catenate.{joined_on}
use Rattle.apl_reshape.specs.inside.Vectors.{joined_vectors}
use Rattle.apl_reshape.proofs.Joins.{small_beside}
use Rattle.apl_reshape.proofs.InVector.{in_vector}
use Rattle.apl_reshape.proofs.joining.join_on.Goals as goal

pub join_with-requires-clause-s_small : goal.join_with-requires-clause-s_small
join_with-requires-clause-s_small c =
    small_beside c.shape-own.result.now c.shape-other.result.now c.as_slice-3.result.now c.args.axis (c.as_slice-3.ensures.value ∙ c.lengths_beside-s.ensures)
    (rw (c.shape-own.ensures.value) c.shape-own.ensures.array.small) (rw (c.shape-other.ensures.value) c.shape-other.ensures.array.small)

pub join_with-requires-clause-t_small : goal.join_with-requires-clause-t_small
join_with-requires-clause-t_small c =
    small_beside c.shape-other.result.now c.shape-own.result.now c.as_slice-4.result.now c.args.axis (c.as_slice-4.ensures.value ∙ c.lengths_beside-t.ensures)
    (rw (c.shape-other.ensures.value) c.shape-other.ensures.array.small) (rw (c.shape-own.ensures.value) c.shape-own.ensures.array.small)

pub returns-then-other-lt2-clause-value : goal.returns-then-other-lt2-clause-value
returns-then-other-lt2-clause-value c =
    let same : joined_on c.args.axis c.args.a.now c.args.b.now ≡ joined_vectors c.args.a.now c.args.b.now =
    in_vector c.args.a.now c.args.b.now c.args.axis c.requires (omega (arith, ap length c.shape-own.ensures.value)) (omega (arith, ap length c.shape-other.ensures.value)) c.shape-own.ensures.array.full c.shape-other.ensures.array.full in
    answers_along (λ r. r) _ _ c.join_vectors.result same c.join_vectors.ensures.value

pub returns-then-other-lt2-clause-at_once : goal.returns-then-other-lt2-clause-at_once
returns-then-other-lt2-clause-at_once c =
    let same : joined_on c.args.axis c.args.a.now c.args.b.now ≡ joined_vectors c.args.a.now c.args.b.now =
    in_vector c.args.a.now c.args.b.now c.args.axis c.requires (omega (arith, ap length c.shape-own.ensures.value)) (omega (arith, ap length c.shape-other.ensures.value)) c.shape-own.ensures.array.full c.shape-other.ensures.array.full in
    first_along _ _ c.join_vectors.result same c.join_vectors.ensures.at_once
