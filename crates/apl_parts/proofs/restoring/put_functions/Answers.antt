use Rattle.std.proofs.Common.{◌∙◌, Some}
use Rattle.std.proofs.lemmas.List.Elements.{All-pop}
use Rattle.apl_names.specs.declared.binding.Binding.TheVariants.{Function}
use Rattle.apl_parts.specs.Restored.{AreFew, function_entry}
use Rattle.apl_parts.proofs.Objects.{global_single, one_onto, one_put}
use Rattle.apl_parts.proofs.restoring.put_functions.Goals as goal

pub loop-part-preserved : goal.loop-part-preserved
loop-part-preserved c =
    let before = c.loop-part.invariant in
    let x = c.in-Some.part in
    let all = c.loop-part.functions.items in
    let rest = c.pop.new.self.items in
    let put = one_put function_entry all rest x c.loop-part.names c.put_function.new.names c.in-Some.ensures.items (c.in_ok-put_function.ensures.names ∙ global_single x.definition.header.name (Function x.definition) c.loop-part.names before.single) in
    record {
      few = (All-pop AreFew all rest (Some x) c.in-Some.ensures.items before.few).0;
      single = put.0;
      same = put.1 ∙ before.same;
      stops = one_onto (λ f. f.stops) all rest x c.loop-part.stops c.put_function.new.stops c.in-Some.ensures.items c.in_ok-put_function.ensures.stops ∙ before.stops;
      traces = one_onto (λ f. f.traces) all rest x c.loop-part.traces c.put_function.new.traces c.in-Some.ensures.items c.in_ok-put_function.ensures.traces ∙ before.traces;
    }
