use Rattle.std.proofs.Common.{◌≤◌, length, List, All}
use Rattle.apl_tokens.specs.declared.token.Token.{Token}
use Rattle.apl_tokens.specs.Lines.{Ascend, Fits}
use Rattle.apl_tokens.proofs.OneAnswer.{only_memory}
use Rattle.apl_tokens.proofs.Columns.{of_answer, tokens_ascend, tokens_few}
use Rattle.apl_tokens.specs.Tokens.{AreTokens}
use Rattle.apl_tokens.proofs.Answered.{reads_answer}
use Rattle.apl_tokens.proofs.Limits.{tokens_limits, tokens_fit}
use Rattle.apl_tokens.proofs.Places.{faults_placed}
use Rattle.apl_tokens.proofs.Leftmost.{result_leads, result_faultless}
use Rattle.apl_tokens.proofs.line.tokens.Goals as goal

pub returns-clause-complete : goal.returns-clause-complete
returns-clause-complete c = only_memory c.args.text.now c.read.result c.read.ensures.fault

pub returns-clause-columns : goal.returns-clause-columns
returns-clause-columns c = of_answer (λ v. v.items) (λ (ts : List Token). Ascend 0 ts) c.args.text.now c.read.result (tokens_ascend c.args.text.now) c.read.ensures.found

pub returns-clause-few : goal.returns-clause-few
returns-clause-few c = of_answer (λ v. v.items) (λ (ts : List Token). length ts ≤ 500) c.args.text.now c.read.result (tokens_few c.args.text.now) c.read.ensures.found

pub returns-clause-fits : goal.returns-clause-fits
returns-clause-fits c = of_answer (λ v. v.items) (λ (ts : List Token). All (λ t. Fits t.kind) ts) c.args.text.now c.read.result (tokens_fit c.args.text.now) c.read.ensures.found

pub returns-clause-reads : goal.returns-clause-reads
returns-clause-reads c = reads_answer c.args.text.now c.read.result c.read.ensures.found c.read.ensures.fault

pub returns-clause-sound : goal.returns-clause-sound
returns-clause-sound c = of_answer (λ v. v.items) AreTokens c.args.text.now c.read.result (λ ts. tokens_limits ts c.args.text.now) c.read.ensures.found

pub returns-clause-placed : goal.returns-clause-placed
returns-clause-placed c = faults_placed c.args.text.now c.read.result c.read.ensures.fault

pub returns-clause-leftmost : goal.returns-clause-leftmost
returns-clause-leftmost c = result_leads c.args.text.now c.read.result (reads_answer c.args.text.now c.read.result c.read.ensures.found c.read.ensures.fault)

pub returns-clause-faultless : goal.returns-clause-faultless
returns-clause-faultless c = result_faultless c.args.text.now c.read.result (reads_answer c.args.text.now c.read.result c.read.ensures.found c.read.ensures.fault)
