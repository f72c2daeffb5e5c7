use Rattle.std.proofs.Common.{sym, ◌∙◌}
use Rattle.apl_contexts.specs.Stacks.{contexts_of}
use Rattle.apl_contexts.proofs.Blamed.{blamed_lines}
use Rattle.apl_machine.proofs.Readers.{then_ok}
use Rattle.apl_machine.proofs.reports.context_fault.Goals as goal

pub returns : goal.returns
returns c = then_ok c.line_fault.result (λ lines h ms. h ms ∙ sym (blamed_lines ms c.args.fault c.args.column (contexts_of c.args.contexts) c.in-Some.context.now c.in-Some.place (sym c.in-Some.ensures.value))) c.line_fault.ensures
