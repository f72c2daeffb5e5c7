use Rattle.std.proofs.Common.{rules}
use Rattle.serde_json.proofs.OnLiterals.{serde_json_on_literals}
use Rattle.apl_serve.proofs.error.Refusal.text.Goals as goal

pub returns-in-Json : goal.returns-in-Json
unfolding serde_json_on_literals
returns-in-Json c = search rules

pub returns-in-Request : goal.returns-in-Request
unfolding serde_json_on_literals
returns-in-Request c = search rules

pub returns-in-Line : goal.returns-in-Line
unfolding serde_json_on_literals
returns-in-Line c = search rules

pub returns-in-Running : goal.returns-in-Running
unfolding serde_json_on_literals
returns-in-Running c = search rules

pub returns-in-Function : goal.returns-in-Function
unfolding serde_json_on_literals
returns-in-Function c = search rules

pub returns-in-Value : goal.returns-in-Value
unfolding serde_json_on_literals
returns-in-Value c = search rules

pub returns-in-Memory : goal.returns-in-Memory
unfolding serde_json_on_literals
returns-in-Memory c = search rules

pub returns-in-Answer : goal.returns-in-Answer
unfolding serde_json_on_literals
returns-in-Answer c = search rules

pub returns-in-Length : goal.returns-in-Length
unfolding serde_json_on_literals
returns-in-Length c = search rules
