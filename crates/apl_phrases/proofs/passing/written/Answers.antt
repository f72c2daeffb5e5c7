use Rattle.std.proofs.Common.{rules, ◌≡◌}
use Rattle.apl_machine_state.specs.Outcomes.{taken_of}
use Rattle.apl_operands.specs.Operands.{fetched_from}
use Rattle.apl_primitives.specs.Taken.{One}
use Rattle.apl_phrases.proofs.Passed.{group_passes, show_passes}
use Rattle.apl_phrases.proofs.passing.written.Goals as goal

pub returns-in-One-clause-is : goal.returns-in-One-clause-is
returns-in-One-clause-is c =
    let os = fetched_from c.args.phrase.operands c.args.phrase.sources.now in
    let takes : One c.in-One.field-0.now ≡ taken_of os = search rules in
    group_passes c.args.phrase.instr.now.action c.in-Phrase.row os c.in-One.field-0.now c.new.result c.in-Phrase.is c.in-Group.is takes c.new.ensures.items

pub returns-in-One-arguments-clause-is : goal.returns-in-One-arguments-clause-is
returns-in-One-arguments-clause-is c =
    let os = fetched_from c.args.phrase.operands c.args.phrase.sources.now in
    let takes : One c.in-One-arguments.b.now ≡ taken_of os = search rules in
    show_passes c.args.phrase.instr.now.action c.in-Phrase.row os c.in-One-arguments.b.now c.shown.result c.in-Phrase.is c.in-Show.is takes c.shown.ensures.ok c.shown.ensures.err
