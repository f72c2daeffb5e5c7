use Rattle.std.proofs.Common.{subst}
use Rattle.std.specs.Prelude.{IfSome}
use Rattle.apl_charset.specs.Text.{IsLine}
use Rattle.apl_loading.proofs.OneName.{line_same}
use Rattle.apl_loading.proofs.names.is_named.Goals as goal

pub returns-in-Some-clause-same : goal.returns-in-Some-clause-same
returns-in-Some-clause-same c =
    let line = subst (λ o. IfSome o (λ t. IsLine c.as_str.result.now t)) c.in-Some.is c.in_ok-text.ensures.found in
    line_same c.args.field.now c.in-Some.text c.args.name.now c.as_slice.result.now c.as_slice-in-Some.result.now c.are_same.result (subst (λ f. IsLine f c.in-Some.text) c.as_str.ensures line) c.as_slice.ensures c.as_slice-in-Some.ensures.value c.are_same.ensures
