use Rattle.std.proofs.Common.{◌∷◌, [], Some, sym, ap, ◌∙◌}
use Rattle.apl_arrays.specs.declared.cell.Cell.TheVariants.{Num}
use Rattle.apl_arrays.specs.Simple.{single}
use Rattle.apl_machine_state.specs.Outcomes.{Makes}
use Rattle.apl_operands.specs.Operands.{fetched_from}
use Rattle.apl_phrases.proofs.NoNumbers.{if_none_weaker}
use Rattle.apl_phrases.proofs.Slotted.{alone_in_list, anywhere, if_some_weaker, makes_list, one_slot, same_slots}
use Rattle.apl_phrases.proofs.lists.slot_given.Goals as goal

pub returns-clause-is : goal.returns-clause-is
returns-clause-is c =
    let os = fetched_from c.args.phrase.operands c.args.phrase.sources.now in
    let kind = c.makes_list.ensures.yes c.if-not-makes_list.false in
    if_some_weaker c.lone_number.result _ _
    (λ z alone. (kind, λ s. makes_list s c.args.phrase.instr.now.action os kind ∙ ap Makes (one_slot os (single (Num z)) alone)))
    c.lone_number.ensures.is

pub returns-clause-none : goal.returns-clause-none
returns-clause-none c =
    let os = fetched_from c.args.phrase.operands c.args.phrase.sources.now in
    if_none_weaker c.lone_number.result _ _
    (λ none z made. none z (alone_in_list os (single (Num z)) (same_slots _ (Some (single (Num z)) ∷ []) (sym (makes_list anywhere c.args.phrase.instr.now.action os made.0) ∙ made.1 anywhere))))
    c.lone_number.ensures.none
