use Rattle.std.proofs.Common.{rules}
use Rattle.std.proofs.lemmas.List.Sorted.{answers_always}
use Rattle.apl_loading.proofs.Named.{name_of, searched}
use Rattle.apl_loading.proofs.variables.has_name.Goals as goal

pub returns : goal.returns
returns c =
    let facts = c.binary_search_by_key.ensures in
    let by_key = facts.position name_of (answers_always _ _ _ (λ f a r g called. search rules)) in
    rw c.is_ok.ensures.value (searched c.args.name.now c.args.functions.now c.binary_search_by_key.result c.requires facts.bound by_key)
