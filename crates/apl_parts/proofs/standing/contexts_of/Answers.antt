use Rattle.std.proofs.Common.{map, vec_len, reverse, sym, ap, ◌∙◌, arith}
use Rattle.std.specs.Prelude.{slice_get}
use Rattle.std.specs.Option.{option_copied}
use Rattle.apl_contexts.specs.Contexts.{dressed}
use Rattle.apl_parts.specs.Taken.{part_of}
use Rattle.apl_parts.proofs.Told.{scope_most, told_all, told_more}
use Rattle.apl_parts.proofs.standing.contexts_of.Goals as goal

pub loop-context-preserved : goal.loop-context-preserved
loop-context-preserved c =
    let before = c.loop-context.invariant in
    let ms = c.args.names.now in
    let cs = c.args.contexts.now in
    let context = c.in-Some.context.now in
    let got = ap (slice_get cs) (sym c.len.ensures) ∙ sym c.get.ensures ∙ ap option_copied c.in-Some.is in
    let most = scope_most c.loop-context.scope context in
    let below = c.scope_beneath-scope.ensures in
    let pushed = c.in_ok-push.ensures in
    record {
      scope = omega arith;
      told = told_more ms cs c.loop-context.parts.items c.push.new.self.items c.loop-context.scope c.scope_beneath-scope.result (vec_len c.loop-context.parts) (vec_len c.push.new.self) context c.in_ok-context_part.field-0 (map part_of (dressed ms cs)) got c.in_ok-context_part.ensures below pushed.items pushed.len before.told;
    }

pub returns : goal.returns
returns c =
    let ms = c.args.names.now in
    let cs = c.args.contexts.now in
    let got = ap (slice_get cs) (sym c.len.ensures) ∙ sym c.get.ensures ∙ ap option_copied c.in_default.is in
    c.reverse.ensures.items ∙ ap reverse (told_all ms cs c.loop-context.parts.items (map part_of (dressed ms cs)) c.loop-context.scope (vec_len c.loop-context.parts) got c.loop-context.invariant.told)
