use Rattle.std.proofs.Common.{codes, subst}
use Rattle.clap.specs.Words.{found_of, one_of, rows_of}
use Rattle.apl_words.specs.Planning.{IsFlag, IsPlan}
use Rattle.apl_words.specs.declared.Plan.TheVariants.{Desk, Serve}
use Rattle.apl_words.proofs.Parsing.{plan_found}
use Rattle.apl_words.proofs.parsed.Goals as goal

pub returns-then-has_flag : goal.returns-then-has_flag
returns-then-has_flag c =
    let found = rows_of (found_of c.in_ok-matches.matches) in
    let plan : IsPlan found (Desk c.steps_of.result) =
    (subst (λ flag. IsFlag (one_of (codes "desk") found) flag) c.if-has_flag.true c.has_flag.ensures, c.steps_of.ensures) in
    plan_found _ _ c.in_ok-matches.matches (Desk c.steps_of.result) c.in_ok-command.ensures c.in_ok-matches.ensures.matches plan

pub returns-then-has_flag-2 : goal.returns-then-has_flag-2
returns-then-has_flag-2 c =
    let found = rows_of (found_of c.in_ok-matches.matches) in
    let plan : IsPlan found (Serve c.in_ok-given.field-0) = (
      subst (λ flag. IsFlag (one_of (codes "desk") found) flag) c.if-has_flag.false c.has_flag.ensures,
      subst (λ flag. IsFlag (one_of (codes "serve") found) flag) c.if-has_flag-2.true c.has_flag-2.ensures,
      c.in_ok-given.ensures,
    ) in
    plan_found _ _ c.in_ok-matches.matches (Serve c.in_ok-given.field-0) c.in_ok-command.ensures c.in_ok-matches.ensures.matches plan

pub returns : goal.returns
returns c = plan_found _ _ c.in_ok-matches.matches c.in_ok-plan_of.field-0 c.in_ok-command.ensures c.in_ok-matches.ensures.matches c.in_ok-plan_of.ensures
