use Rattle.std.proofs.Common.{◌≡◌, List, Option, Some, None, Ok, refl, sym, ap, ◌∙◌, subst}
use Rattle.std.specs.Prelude.{IfNone, IfSome}
use Rattle.std.specs.declared.alloc.Global.{Global}
use Rattle.std.specs.declared.vec.Vec.{Vec}
use Rattle.std.proofs.lemmas.Result.{err_from_is_err_and}
use Rattle.apl_tokens.specs.declared.token.Token.{Token}
use Rattle.apl_tokens.specs.Tokens.{tokens_of}
use Rattle.apl_defn.specs.Definitions.{line_at, line_of}
use Rattle.apl_loading.specs.inside.Made.{AreLocals, IsCallBy}
use Rattle.apl_loading.proofs.OneCall.{at_line, no_line, no_call_rest, rest_of_line}
use Rattle.apl_loading.proofs.contexts.read_call.Goals as goal

pub returns-in_default-clause-refused : goal.returns-in_default-clause-refused
returns-in_default-clause-refused c m =
    let none = subst (λ (o : Option (Vec Token Global)). IfNone o (line_at c.args.definition.lines c.args.field.now.at ≡ None)) c.in_default.is c.in_ok-tokens.ensures.none in
    (refl, no_line c.args.definition c.args.field.now c.args.values.locals.items c.args.values.operands.items none)

pub returns-in_err-line-clause-refused : goal.returns-in_err-line-clause-refused
returns-in_err-line-clause-refused c =
    let d = c.args.definition in
    let at = c.args.field.now.at in
    let there = subst (λ (o : Option (Vec Token Global)). IfSome o (λ ts. tokens_of (line_of d at) ≡ Ok ts.items)) c.in-Some.is c.in_ok-tokens.ensures.value in
    let read = there ∙ ap (λ (ts : List Token). Ok ts) (sym c.as_slice.ensures.value) in
    let p = err_from_is_err_and c.from_residual-in_err-line.result c.from_residual-in_err-line.ensures.1 in
    rw (p.1, p.2) (λ m. ((c.in_err-line.ensures.refused m).0, no_call_rest d c.args.field.now c.args.values.locals.items c.args.values.operands.items c.as_slice.result.now read (c.in_err-line.ensures.refused m).1))

pub returns-clause-found : goal.returns-clause-found
returns-clause-found c =
    let d = c.args.definition in
    let at = c.args.field.now.at in
    let there = subst (λ (o : Option (Vec Token Global)). IfSome o (λ ts. tokens_of (line_of d at) ≡ Ok ts.items)) c.in-Some.is c.in_ok-tokens.ensures.value in
    let read = there ∙ ap (λ (ts : List Token). Ok ts) (sym c.as_slice.ensures.value) in
    let line = subst (λ (o : Option (Vec Token Global)). IfSome o (λ ts. line_at d.lines at ≡ Some (line_of d at))) c.in-Some.is c.in_ok-tokens.ensures.line in
    subst (IsCallBy d c.args.field.now c.args.values.locals.items c.args.values.operands.items) (sym c.new-2.ensures) (record {
      definition = c.in_ok-function.ensures;
      at = refl;
      at_line = at_line d at (line_of d at) line;
      locals = subst (λ h. AreLocals h c.args.field.now.locals c.args.values.locals.items c.in_ok-locals.locals.items) c.header.ensures.value
          (subst (λ fs. AreLocals c.header.result.now fs c.args.values.locals.items c.in_ok-locals.locals.items) c.as_slice-fields.ensures c.in_ok-locals.ensures.found);
      rest = rest_of_line (line_of d at) c.as_slice.result.now c.args.field.now.rest c.args.values.operands.items c.in_ok-line.line.part read c.in_ok-line.ensures.rest;
    })
