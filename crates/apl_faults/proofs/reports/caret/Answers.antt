use Rattle.std.proofs.Common.{rules}
use Rattle.std.proofs.lemmas.List.{replicate-append-replicate}
use Rattle.apl_faults.proofs.reports.caret.Goals as goal

pub returns : goal.returns
returns c = search (replicate-append-replicate, rules)
