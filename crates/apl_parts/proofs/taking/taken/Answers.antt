use Rattle.std.proofs.Common.{ap, ◌∙◌, Bool}
use Rattle.std.specs.List.{flat_map}
use Rattle.apl_arrays.specs.Origins.{origin_number}
use Rattle.apl_names.specs.Maps.{Text, last_map, said}
use Rattle.apl_parts.specs.Making.{function_at, variable_at}
use Rattle.apl_parts.proofs.Globals.{functions_are, taken_is, variables_are}
use Rattle.apl_parts.proofs.taking.taken.Goals as goal

pub returns : goal.returns
returns c =
    let ms = c.args.names.now in
    let m = last_map ms in
    let stops = c.args.stops.now in
    let traces = c.args.traces.now in
    let keys = c.in_ok-globals.globals.items in
    let ascend = c.in_ok-globals.ensures.ascend in
    let kinds = c.in_ok-globals.ensures.kinds in
    let functions = c.in_ok-functions.functions.items in
    let variables = c.in_ok-variables.variables.items in
    taken_is c.new.result functions variables c.in_ok-contexts.contexts.items stops traces (origin_number c.args.origin) ms c.args.contexts.now c.new.ensures c.requires
    (functions_are stops traces m functions keys ascend kinds (c.in_ok-functions.ensures ∙ ap (flat_map (λ (k : Text × Bool). function_at stops traces k.0 (said m k.0))) c.as_slice.ensures.value))
    (variables_are m variables keys ascend kinds (c.in_ok-variables.ensures ∙ ap (flat_map (λ (k : Text × Bool). variable_at k.0 (said m k.0))) c.as_slice-2.ensures.value))
    c.in_ok-contexts.ensures
