-- What was found is what the parser finds in the words.
use Rattle.std.proofs.Common.{◌≡◌, ◌∙◌, List, true, refl, ap, subst}
use Rattle.clap.specs.Words.{App, Text, HasMatchesOf, found_of, is_simple, matches_of, rows_of}
use Rattle.clap.specs.declared.parser.matches.ArgMatches.{ArgMatches}
use Rattle.clap.proofs.OnLiterals.{clap_on_literals}
use Rattle.apl_words.specs.Arguments.{apl, found_in}
use Rattle.apl_words.specs.Planning.{IsPlan}
use Rattle.apl_words.specs.declared.Plan.{Plan}

is_simple_apl : is_simple apl ≡ true
unfolding clap_on_literals
is_simple_apl = refl

pub plan_found : (app : App) (words : List Text) (m : ArgMatches) (plan : Plan) → app ≡ apl → HasMatchesOf app words m
    → IsPlan (rows_of (found_of m)) plan → IsPlan (found_in words) plan
unfolding found_in
plan_found app words m plan is has =
    subst (λ rows. IsPlan rows plan) ((has (ap is_simple is ∙ is_simple_apl)).0 ∙ ap (λ a. matches_of a words) is)
