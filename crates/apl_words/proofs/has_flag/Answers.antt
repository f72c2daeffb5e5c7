use Rattle.std.proofs.Common.{sym, subst}
use Rattle.clap.specs.Words.{found_of}
use Rattle.apl_words.specs.Planning.{IsFlag}
use Rattle.apl_words.proofs.Found.{one_found}
use Rattle.apl_words.proofs.has_flag.Goals as goal

pub returns : goal.returns
returns c =
    let read = c.get_flag.ensures in
    subst (λ text. IsFlag text c.get_flag.result) (sym (one_found (found_of c.args.matches.now) c.args.name.now)) (read.none, read.value, read.other)
