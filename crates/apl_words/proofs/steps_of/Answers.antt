use Rattle.std.proofs.Common.{codes, rules, sym, subst}
use Rattle.std.specs.Str.Parse.{ParsesUnsigned, ExplainsUnsignedError, HasUnsignedDigitsIfOk}
use Rattle.clap.specs.Words.{found_of, one_text}
use Rattle.apl_words.specs.Planning.{IsSteps}
use Rattle.apl_words.proofs.Found.{one_found}
use Rattle.apl_words.proofs.Counting.{steps_read}
use Rattle.apl_words.proofs.steps_of.Goals as goal

pub returns : goal.returns
returns c =
    let found = found_of c.args.matches.now in
    let read = steps_read _ (λ bs r. ParsesUnsigned 64 10 bs r × ExplainsUnsignedError 10 bs r × HasUnsignedDigitsIfOk bs r)
    (one_text found (codes "steps")) c.get_one.result c.unwrap_or.result (λ u x g. g.0) c.get_one.ensures.none c.get_one.ensures.value (search rules) in
    subst (λ text. IsSteps text c.unwrap_or.result) (sym (one_found found (codes "steps"))) read
