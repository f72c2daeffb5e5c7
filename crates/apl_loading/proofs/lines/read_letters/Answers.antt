use Rattle.std.proofs.Common.{sym, ◌∙◌}
use Rattle.std.proofs.lemmas.Result.{IfOk-weaker, IfErr-weaker}
use Rattle.apl_loading.proofs.OneLine.{letters_are, are_letters}
use Rattle.apl_loading.proofs.lines.read_letters.Goals as goal

pub returns-clause-found : goal.returns-clause-found
returns-clause-found c =
    let e = c.as_bytes.ensures.value ∙ c.as_str.ensures in
    IfOk-weaker c.read_all.result _ _ (λ v h. sym e ∙ letters_are c.as_bytes.result.now v.items h) c.read_all.ensures.found

pub returns-clause-refused : goal.returns-clause-refused
returns-clause-refused c =
    let e = c.as_bytes.ensures.value ∙ c.as_str.ensures in
    IfErr-weaker c.read_all.result _ _ (λ x h m. ((h m).0, λ cs l. (h m).1 cs (are_letters c.as_bytes.result.now cs (e ∙ l)))) c.read_all.ensures.refused
