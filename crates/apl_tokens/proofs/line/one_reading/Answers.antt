use Rattle.apl_tokens.proofs.Answered.{spelled_answer, answer_spells, fault_answer, answer_fault}
use Rattle.apl_tokens.proofs.Limits.{tokens_limits}
use Rattle.apl_tokens.proofs.Places.{fault_placed}
use Rattle.apl_tokens.proofs.Leftmost.{answer_leads, answer_faultless}
use Rattle.apl_tokens.proofs.line.one_reading.Goals as goal

pub returns-clause-spelled : goal.returns-clause-spelled
returns-clause-spelled c = spelled_answer

pub returns-clause-spells : goal.returns-clause-spells
returns-clause-spells c = answer_spells

pub returns-clause-fault : goal.returns-clause-fault
returns-clause-fault c = fault_answer

pub returns-clause-faulty : goal.returns-clause-faulty
returns-clause-faulty c = answer_fault

pub returns-clause-sound : goal.returns-clause-sound
returns-clause-sound c = λ text ts is. tokens_limits ts text (answer_spells text ts is)

pub returns-clause-placed : goal.returns-clause-placed
returns-clause-placed c = λ text e is. fault_placed text e (answer_fault text e is).0

pub returns-clause-leftmost : goal.returns-clause-leftmost
returns-clause-leftmost c = answer_leads

pub returns-clause-faultless : goal.returns-clause-faultless
returns-clause-faultless c = answer_faultless
