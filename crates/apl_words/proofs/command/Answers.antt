use Rattle.std.proofs.Common.{◌≡◌, ◌∙◌, ap, ap₂, true}
use Rattle.std.proofs.lemmas.Result.{IfOk-weaker}
use Rattle.clap.specs.Words.{App, app_of, with_rule}
use Rattle.clap.specs.Simple.{app_of_fields}
use Rattle.apl_words.specs.Arguments.{named}
use Rattle.apl_words.proofs.command.Goals as goal

pub returns : goal.returns
returns c =
    let version = ap app_of_fields c.version.ensures ∙ ap (λ (a : App). record a { top = record a.top { has_version = true } }) c.new.ensures.app in
    let is_named : app_of c.after_help.result ≡ named = ap app_of_fields c.after_help.ensures ∙ version in
    let one = c.in_ok-arg.ensures.shape c.workspace.ensures.1 ∙ ap₂ with_rule is_named c.workspace.ensures.0 in
    let two = c.in_ok-arg-2.ensures.shape c.save.ensures.1 ∙ ap₂ with_rule one c.save.ensures.0 in
    let three = c.in_ok-arg-3.ensures.shape c.steps.ensures.1 ∙ ap₂ with_rule two c.steps.ensures.0 in
    let four = c.in_ok-arg-4.ensures.shape c.in_ok-code.ensures.1 ∙ ap₂ with_rule three c.in_ok-code.ensures.0 in
    let five = c.in_ok-arg-5.ensures.shape c.resume.ensures.1 ∙ ap₂ with_rule four c.resume.ensures.0 in
    let six = c.in_ok-arg-6.ensures.shape c.in_ok-desk.ensures.1 ∙ ap₂ with_rule five c.in_ok-desk.ensures.0 in
    IfOk-weaker c.arg-7.result _ _ (λ r adds. adds.shape c.in_ok-serve.ensures.1 ∙ ap₂ with_rule six c.in_ok-serve.ensures.0) c.arg-7.ensures
