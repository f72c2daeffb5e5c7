use Rattle.std.proofs.Common.{rules}
use Rattle.clap.specs.Words.{found_of}
use Rattle.apl_words.proofs.Found.{first_found}
use Rattle.apl_words.proofs.given.Goals as goal

pub returns-in_ok-from_str-in-Some : goal.returns-in_ok-from_str-in-Some
returns-in_ok-from_str-in-Some c = rw (first_found (found_of c.args.matches.now) c.args.name.now) (search rules)

pub returns-in-None : goal.returns-in-None
returns-in-None c = rw (first_found (found_of c.args.matches.now) c.args.name.now) (search rules)
