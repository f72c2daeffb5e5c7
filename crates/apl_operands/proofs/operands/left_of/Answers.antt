use Rattle.std.proofs.Common.{◌≡◌, ◌∙◌, ◌-◌, List, ap, arith, length, reverse, sym, take}
use Rattle.std.proofs.lemmas.List.{take_all}
use Rattle.apl_machine_state.specs.declared.operand.Operand.{Operand}
use Rattle.apl_operands.specs.Operands.{unfetched}
use Rattle.apl_operands.proofs.Fetching.{unfetched_all}
use Rattle.apl_operands.proofs.operands.left_of.Goals as goal

pub returns-clause-left : goal.returns-clause-left
returns-clause-left c =
    let os = c.args.stack.now in
    let sources = c.args.arguments.now in
    let all : take (length os) os ≡ os = take_all (length os) os (omega arith) in
    ap (λ (l : List Operand). unfetched sources (reverse l)) (sym all)
    ∙ unfetched_all sources os (length os) c.saturating_sub.result (omega arith) (c.saturating_sub.ensures ∙ ap (λ n. length os - n) c.taken.ensures)
