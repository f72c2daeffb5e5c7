use Rattle.std.proofs.lemmas.Result.{IfOk-weaker}
use Rattle.apl_loading.proofs.Ruled as rules
use Rattle.apl_loading.proofs.WholeParts.{whole}
use Rattle.apl_loading.proofs.Unrefused.{complete, held_by, memory}
use Rattle.apl_loading.proofs.loading.parts_of.Goals as goal

pub returns-clause-held : goal.returns-clause-held
returns-clause-held c = IfOk-weaker c.read_parts.result _ _ (λ p h. rules.held c.args.file.now p h) c.read_parts.ensures.held

pub returns-clause-ruled : goal.returns-clause-ruled
returns-clause-ruled c = IfOk-weaker c.read_parts.result _ _ (λ p h. rules.ruled c.args.file.now p c.requires h) c.read_parts.ensures.held

pub returns-clause-whole : goal.returns-clause-whole
returns-clause-whole c = IfOk-weaker c.read_parts.result _ _ (λ p h. whole p (rules.ruled c.args.file.now p c.requires h)) c.read_parts.ensures.held

pub returns-clause-complete : goal.returns-clause-complete
returns-clause-complete c = λ p g r. complete c.args.file.now c.read_parts.result memory c.read_parts.ensures.held c.read_parts.ensures.refused p (held_by c.args.file.now p g r)
