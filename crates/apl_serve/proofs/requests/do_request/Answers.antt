use Rattle.apl_serve.proofs.Doing.{bytes_done}
use Rattle.apl_serve.proofs.requests.do_request.Goals as goal
use Rattle.serde_json.specs.View.{view}

pub returns : goal.returns
returns c = bytes_done c.do_tree.result c.args.request.now (view c.in_ok-tree.tree) c.args.kept.now c.do_tree.new.kept c.requires c.in_ok-tree.ensures.json c.do_tree.ensures
