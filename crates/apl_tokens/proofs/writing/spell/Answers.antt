use Rattle.apl_tokens.proofs.Fitting.{plainly}
use Rattle.apl_tokens.proofs.Answered.{spelled_answer}
use Rattle.apl_tokens.proofs.writing.spell.Goals as goal

pub returns-clause-spelled : goal.returns-clause-spelled
returns-clause-spelled c = rw c.in_ok-text.ensures (plainly c.args.tokens.now c.requires.text c.requires.spells).spells

pub returns-clause-reads : goal.returns-clause-reads
returns-clause-reads c = rw c.in_ok-text.ensures (spelled_answer _ c.args.tokens.now (plainly c.args.tokens.now c.requires.text c.requires.spells).spells)

pub returns-clause-shortest : goal.returns-clause-shortest
returns-clause-shortest c = rw c.in_ok-text.ensures (λ other spells. (plainly c.args.tokens.now other spells).short)
