use Rattle.std.proofs.Common.{◌≡◌, sym, ◌∙◌, true, false}
use Rattle.apl_select.proofs.assignment.index_assign_into.Goals as goal

pub returns-clause-numbers : goal.returns-clause-numbers
returns-clause-numbers c = λ z e n s. let done : false ≡ true = sym c.if-branch.false ∙ c.in_ok-number_assigned.ensures.single z e n s in absurd (cc)
