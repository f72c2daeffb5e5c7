use Rattle.std.proofs.Common.{sym, ap, ◌∙◌}
use Rattle.std.proofs.lemmas.Result.{IfOk-weaker}
use Rattle.apl_machine_state.specs.Outcomes.{Makes}
use Rattle.apl_operands.specs.Operands.{fetched_from}
use Rattle.apl_phrases.specs.Effects.{MakesSlots, outcome_of}
use Rattle.apl_phrases.proofs.Slotted.{makes_list}
use Rattle.apl_phrases.proofs.lists.slots_given.Goals as goal

pub returns-clause-is : goal.returns-clause-is
returns-clause-is c =
    let p = c.args.phrase in
    let os = fetched_from p.operands p.sources.now in
    IfOk-weaker c.slots.result _ (MakesSlots (outcome_of p))
    (λ made e s. makes_list s p.instr.now.action os (c.makes_list.ensures.yes c.if-not-makes_list.false) ∙ ap Makes (sym e))
    c.slots.ensures
