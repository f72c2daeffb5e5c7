use Rattle.std.proofs.Common.{map, reverse, ap, ◌∙◌}
use Rattle.apl_parts.specs.Workspaces.{Pieces}
use Rattle.apl_parts.specs.Restored.{context_of, globals_of, vectors_of}
use Rattle.apl_parts.proofs.Added.{map_reverse}
use Rattle.apl_parts.proofs.Objects.{globals_are, vectors_are}
use Rattle.apl_parts.proofs.restoring.restored.Goals as goal

pub returns-clause-globals : goal.returns-clause-globals
returns-clause-globals c =
    let p = c.parts.inside in
    let st = c.in_ok-put_contexts.ensures in
    st.under
    ∙ globals_are p.functions.items p.variables.items c.new-names.result c.put_variables.new.names c.put_functions.new.names c.new-names.ensures c.in_ok-put_variables.ensures c.in_ok-put_functions.ensures.names
    ∙ ap globals_of c.parts.view_is

pub returns-clause-traces : goal.returns-clause-traces
returns-clause-traces c =
    vectors_are (λ f. f.traces) c.parts.inside.functions.items c.new-traces.result c.put_functions.new.traces c.new-traces.ensures c.in_ok-put_functions.ensures.traces
    ∙ ap (λ (p : Pieces). vectors_of (λ f. f.traces) p.functions) c.parts.view_is

pub returns-clause-stops : goal.returns-clause-stops
returns-clause-stops c =
    vectors_are (λ f. f.stops) c.parts.inside.functions.items c.new-stops.result c.put_functions.new.stops c.new-stops.ensures c.in_ok-put_functions.ensures.stops
    ∙ ap (λ (p : Pieces). vectors_of (λ f. f.stops) p.functions) c.parts.view_is

pub returns-clause-contexts : goal.returns-clause-contexts
returns-clause-contexts c =
    let st = c.in_ok-put_contexts.ensures in
    st.dressed ∙ map_reverse context_of c.parts.inside.contexts.items ∙ ap (λ (p : Pieces). reverse (map context_of p.contexts)) c.parts.view_is
