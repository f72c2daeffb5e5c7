use Rattle.std.proofs.Common.{◌∙◌, sym}
use Rattle.std.proofs.lemmas.Result.{IfErr-weaker, IfOk-weaker}
use Rattle.serde_json.specs.Find.{as_null}
use Rattle.serde_json.specs.View.{view}
use Rattle.apl_workspace_file.specs.Json.{IsJson}
use Rattle.apl_serve.proofs.Opening.{closed_by, opened_by, opened_file}
use Rattle.apl_serve.proofs.changes.open_tree.Goals as goal

pub returns-clause-opened : goal.returns-clause-opened
returns-clause-opened c =
    let tree = view c.args.tree.now in
    let json : IsJson c.deref.result.now tree = rw (c.deref.ensures.value) (c.in_ok-file.ensures.utf8, c.in_ok-file.ensures.reads_back c.requires) in
    IfOk-weaker c.open_file.result _ _
    (λ k h. opened_by (as_null tree) tree k (sym c.is_null.ensures ∙ c.if-is_null.false) (opened_file c.deref.result.now tree k json h)) c.open_file.ensures.opened

pub returns-clause-refused : goal.returns-clause-refused
returns-clause-refused c =
    let tree = view c.args.tree.now in
    let json : IsJson c.deref.result.now tree = rw (c.deref.ensures.value) (c.in_ok-file.ensures.utf8, c.in_ok-file.ensures.reads_back c.requires) in
    IfErr-weaker c.open_file.result _ _
    (λ e h. closed_by e c.deref.result.now tree (sym c.is_null.ensures ∙ c.if-is_null.false) json h) c.open_file.ensures.refused
