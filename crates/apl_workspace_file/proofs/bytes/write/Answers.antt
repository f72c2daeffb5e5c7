use Rattle.serde_json.specs.View.{view}
use Rattle.apl_workspace_file.proofs.Written.{is_text, is_json}
use Rattle.apl_workspace_file.proofs.bytes.write.Goals as goal

pub returns-clause-text : goal.returns-clause-text
returns-clause-text c = is_text (view c.in_ok-write.field-0) c.args.file.now c.to_vec.result c.in_ok-write.ensures c.to_vec.ensures.text

pub returns-clause-json : goal.returns-clause-json
returns-clause-json c = is_json (view c.in_ok-write.field-0) c.args.file.now c.to_vec.result c.in_ok-write.ensures c.to_vec.ensures.utf8 c.to_vec.ensures.reads_back
