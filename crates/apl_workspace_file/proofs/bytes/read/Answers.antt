use Rattle.serde_json.specs.View.{view}
use Rattle.apl_workspace_file.proofs.Files.{is_found, is_only, form_refused, complete_refused}
use Rattle.apl_workspace_file.proofs.bytes.read.Goals as goal

pub returns-in_err-read-clause-form : goal.returns-in_err-read-clause-form
returns-in_err-read-clause-form c =
    form_refused c.args.bytes.now (view c.in_ok-tree.tree) c.in_err-read.field-0.0 c.from_residual-in_err-read.result c.in_ok-tree.ensures.json c.in_err-read.ensures c.from_residual-in_err-read.ensures.1

pub returns-in_err-read-clause-complete : goal.returns-in_err-read-clause-complete
returns-in_err-read-clause-complete c = λ f fits other.
    complete_refused c.args.bytes.now (view c.in_ok-tree.tree) c.in_err-read.field-0.0 c.from_residual-in_err-read.result f c.in_ok-tree.ensures.json c.in_err-read.ensures c.from_residual-in_err-read.ensures.1 fits other

pub returns-clause-file : goal.returns-clause-file
returns-clause-file c = is_found c.args.bytes.now (view c.in_ok-tree.tree) c.in_ok-read.field-0 c.in_ok-tree.ensures.json c.in_ok-read.ensures

pub returns-clause-complete : goal.returns-clause-complete
returns-clause-complete c = λ f fits other. is_only c.args.bytes.now (view c.in_ok-tree.tree) c.in_ok-read.field-0 f c.in_ok-tree.ensures.json c.in_ok-read.ensures fits other
