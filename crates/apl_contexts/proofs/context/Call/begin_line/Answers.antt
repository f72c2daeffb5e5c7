use Rattle.std.proofs.Common.{◌≡◌, Some, ap, ◌∙◌, subst}
use Rattle.apl_names.specs.Bound.{IsLineNow}
use Rattle.apl_frames.specs.Flat.{begun_flat}
use Rattle.apl_contexts.specs.Callers.{Caller}
use Rattle.apl_contexts.proofs.Begun.{line_begun}
use Rattle.apl_contexts.proofs.context.Call.begin_line.Goals as goal

pub returns-clause-ok : goal.returns-clause-ok
returns-clause-ok c =
    let line = c.in_ok-line.line.value in
    let none : c.begin_again.new.self ≡ c.args.self.now = c.in_ok-begin_again.ensures.not c.if-branch.false in
    let now = subst (λ (k : Caller). IsLineNow c.args.names.now k.definition c.args.at line.bound) none c.in_ok-line.ensures.line in
    record {
      line = begun_flat line.bound line.code;
      begins = λ tokens read. line_begun line _ (now tokens read);
      puts = c.in_ok-begin.ensures.ok ∙ ap (λ (k : Caller). record k { at = c.args.at; rest = Some (begun_flat line.bound line.code) }) (c.in_ok-line.ensures.same ∙ none);
    }
