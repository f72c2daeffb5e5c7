use Rattle.std.proofs.Common.{ℕ, List, length, get_or, ap, sym, ◌∙◌, arith}
use Rattle.apl_arrays.specs.Cells.{Arr}
use Rattle.apl_turns.proofs.views.transpose_by.Goals as goal

pub turned-requires-clause-each : goal.turned-requires-clause-each
turned-requires-clause-each c = ap length c.as_slice.ensures.value ∙ c.in_ok-axes.ensures.each ∙ c.rank.ensures.value ∙ sym (ap (λ (a : Arr). length a.shape) c.whole.ensures.value)

pub turned-requires-clause-within : goal.turned-requires-clause-within
turned-requires-clause-within c = λ k d h.
    omega (
      arith,
      ap (λ (l : List ℕ). get_or l k d) c.as_slice.ensures.value,
      c.in_ok-axes.ensures.within k d (omega (arith, h, ap length c.as_slice.ensures.value)),
      c.rank.ensures.value,
      ap (λ (a : Arr). length a.shape) c.whole.ensures.value,
    )
