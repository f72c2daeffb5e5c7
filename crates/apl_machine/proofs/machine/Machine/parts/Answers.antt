use Rattle.std.proofs.Common.{◌≡◌, length, suc, sym, ap, subst, ◌∙◌}
use Rattle.std.specs.Result.{IfOk}
use Rattle.apl_contexts.specs.Contexts.{calls}
use Rattle.apl_machine_state.specs.State.{State}
use Rattle.apl_order.specs.Kept.{IsKept}
use Rattle.apl_parts.specs.Taken.{parts_of}
use Rattle.apl_machine.specs.Spaces.{Space, state_of}
use Rattle.apl_machine.proofs.machine.Machine.parts.Goals as goal

pub taken-requires : goal.taken-requires
taken-requires c = subst (λ (w : Space). length w.maps ≡ suc (calls w.contexts)) (sym c.space.view_is) c.self.invariant.sound.contexts.as_many

pub returns-clause-kept : goal.returns-clause-kept
returns-clause-kept c = subst IsKept c.self.view_is c.self.invariant.kept

pub returns-clause-parts : goal.returns-clause-parts
returns-clause-parts c =
    subst (λ (s : State). IfOk c.taken.result (λ p. p ≡ parts_of s)) (ap (λ (w : Space). state_of w) c.space.view_is ∙ c.self.view_is) c.taken.ensures
