use Rattle.std.proofs.Common.{length, ap, sym, ◌∙◌, arith}
use Rattle.apl_arrays.specs.Cells.{Arr}
use Rattle.apl_turns.proofs.Numbered.{order_within, order_length}
use Rattle.apl_turns.proofs.views.transpose.Goals as goal

pub turned-requires-clause-each : goal.turned-requires-clause-each
turned-requires-clause-each c =
    order_length c.rank.result c.as_slice.result.now (c.as_slice.ensures.value ∙ c.other_order-axes.ensures) ∙ c.rank.ensures.value ∙ sym (ap (λ (a : Arr). length a.shape) c.whole.ensures.value)

pub turned-requires-clause-within : goal.turned-requires-clause-within
turned-requires-clause-within c = λ k d h.
    omega (
      arith,
      order_within c.rank.result c.as_slice.result.now (c.as_slice.ensures.value ∙ c.other_order-axes.ensures) k d h,
      c.rank.ensures.value,
      ap (λ (a : Arr). length a.shape) c.whole.ensures.value,
    )
