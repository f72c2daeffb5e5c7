use Rattle.std.proofs.Common.{◌≤◌, length, subst, sym, ap, ◌∙◌}
use Rattle.apl_arrays.specs.Cells.{Arr, cells_of}
use Rattle.apl_arrays.specs.Kept.{arr_of}
use Rattle.apl_arrays.proofs.Places.{small_size}
use Rattle.apl_arrays.proofs.array.Array.elements.Goals as goal

pub returns-in-Dense-clause-small : goal.returns-in-Dense-clause-small
returns-in-Dense-clause-small c =
    let P : Arr → Type 0 = λ a. length (cells_of a.items) ≤ 1000000 in
    subst P (c.deref.ensures ∙ sym (ap arr_of c.in-Dense.is) ∙ c.self.view_is) (small_size _ c.deref.result.now.shape c.ravel.ensures.dense.array.full c.ravel.ensures.dense.array.small)
