use Rattle.std.proofs.Common.{rules}
use Rattle.std.specs.Fmt.{digits}
use Rattle.serde_json.proofs.OnLiterals.{serde_json_on_literals}
use Rattle.apl_serve.proofs.error.load_text.Goals as goal

pub returns-in-NotJson : goal.returns-in-NotJson
unfolding serde_json_on_literals digits
returns-in-NotJson c = search rules

pub returns-in-Form : goal.returns-in-Form
unfolding serde_json_on_literals digits
returns-in-Form c = search rules

pub returns-in-Array : goal.returns-in-Array
unfolding serde_json_on_literals digits
returns-in-Array c = search rules

pub returns-in-Definition : goal.returns-in-Definition
unfolding serde_json_on_literals digits
returns-in-Definition c = search rules

pub returns-in-Context : goal.returns-in-Context
unfolding serde_json_on_literals digits
returns-in-Context c = search rules

pub returns-in-Code : goal.returns-in-Code
unfolding serde_json_on_literals digits
returns-in-Code c = search rules

pub returns-in-Limit : goal.returns-in-Limit
unfolding serde_json_on_literals digits
returns-in-Limit c = search rules

pub returns-in-Memory : goal.returns-in-Memory
unfolding serde_json_on_literals digits
returns-in-Memory c = search rules
