use Rattle.std.proofs.Common.{◌≡◌, ap, ◌∙◌, subst, length, ◌++◌, [], ◌∷◌, Option, Some, List}
use Rattle.apl_code.specs.declared.instr.Source.{Source}
use Rattle.apl_code.specs.declared.instr.Source.TheVariants.{Constant}
use Rattle.apl_operands.specs.Operands.{AreThere}
use Rattle.apl_operands.proofs.Fetching.{last_copied, last_stays, last_there}
use Rattle.apl_operands.proofs.operands.last_operand.Goals as goal

pub constant-requires : goal.constant-requires
constant-requires c =
    let all : c.args.sources.now ≡ c.last_source-last.result.1.now ++ Some (Constant c.in-Constant.k) ∷ [] = c.last_source-last.ensures ∙ ap (λ (s : Source). c.last_source-last.result.1.now ++ Some s ∷ []) c.in-Constant.is in
    last_there (length c.args.operands.constants.now) c.last_source-last.result.1.now c.in-Constant.k (length c.args.operands.stack.now)
    (subst (λ (ss : List (Option Source)). AreThere (length c.args.operands.constants.now) ss (length c.args.operands.stack.now)) all c.requires.there)

pub returns-in-Stack-clause-value : goal.returns-in-Stack-clause-value
returns-in-Stack-clause-value c = λ b h.
    last_stays c.args.operands.constants.now c.args.sources.now c.last_source-last.result.1.now (Some c.last_source-last.result.0) c.args.operands.stack.now c.left-left.result b
    c.last_source-last.ensures (ap (λ (s : Source). Some s) c.in-Stack.is) c.left-left.ensures.left h

pub returns-in_ok-value-in-Constant-clause-value : goal.returns-in_ok-value-in-Constant-clause-value
returns-in_ok-value-in-Constant-clause-value c = λ b h.
    last_copied c.args.operands.constants.now c.args.sources.now c.last_source-last.result.1.now (Some c.last_source-last.result.0) c.args.operands.stack.now c.left-left.result c.in-Constant.k c.in_ok-value-in-Constant.value b
    c.last_source-last.ensures (ap (λ (s : Source). Some s) c.in-Constant.is) c.in_ok-value-in-Constant.ensures c.left-left.ensures.left h
