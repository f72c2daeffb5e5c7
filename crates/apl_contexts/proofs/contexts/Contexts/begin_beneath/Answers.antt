use Rattle.std.proofs.Common.{◌≡◌, Option, Some, true, sym, ap, ◌∙◌, subst}
use Rattle.std.specs.Option.{option_copied}
use Rattle.std.specs.Prelude.{IfSome}
use Rattle.apl_defn.specs.Definitions.{Definition, is_line}
use Rattle.apl_frames.specs.Flat.{Flat, begun_flat}
use Rattle.apl_names.specs.Bound.{IsLineNow}
use Rattle.apl_names.specs.Owned.{Owns}
use Rattle.apl_contexts.specs.Callers.{Caller}
use Rattle.apl_contexts.specs.Contexts.{at_line, call_in}
use Rattle.apl_contexts.proofs.Begun.{begins_now}
use Rattle.apl_contexts.proofs.contexts.Contexts.begin_beneath.Goals as goal

pub function_line-requires-clause-line : goal.function_line-requires-clause-line
function_line-requires-clause-line c =
    let call : call_in c.args.self.now ≡ Some c.in-Some.call.now = sym c.call.ensures ∙ ap option_copied c.in-Some.is in
    let line = subst (λ (o : Option Caller). IfSome o (λ (k : Caller). is_line k.definition c.args.at ≡ true)) call c.requires.line in
    subst (λ (d : Definition). is_line d c.args.at ≡ true) (sym c.function.ensures) line

pub function_line-requires-clause-own : goal.function_line-requires-clause-own
function_line-requires-clause-own c =
    let call : call_in c.args.self.now ≡ Some c.in-Some.call.now = sym c.call.ensures ∙ ap option_copied c.in-Some.is in
    let own = subst (λ (o : Option Caller). IfSome o (λ (k : Caller). Owns c.args.names.now k.definition)) call c.requires.own in
    subst (λ (d : Definition). Owns c.args.names.now d) (sym c.function.ensures) own

pub returns-clause-ok : goal.returns-clause-ok
returns-clause-ok c =
    let ready = c.in_ok-line.line.value in
    let k = c.in-Some.call.now in
    let call : call_in c.args.self.now ≡ Some k = sym c.call.ensures ∙ ap option_copied c.in-Some.is in
    let known = subst (λ (d : Definition). IsLineNow c.args.names.now d c.args.at ready.bound) c.function.ensures c.in_ok-line.ensures in
    let now = subst (λ (o : Option Caller). IfSome o (λ j. IsLineNow c.args.names.now j.definition c.args.at ready.bound)) (sym call) known in
    record {
      line = begun_flat ready.bound ready.code;
      begins = begins_now c.args.names.now c.args.at ready (call_in c.args.self.now) now;
      puts = c.put_line.ensures ∙ ap (λ (f : Flat). at_line c.args.at f c.args.self.now) c.in_ok-begun.ensures;
    }
