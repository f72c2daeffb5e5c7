use Rattle.std.proofs.Common.{◌≡◌, [], ◌∷◌, map, vec_len}
use Rattle.apl_names.specs.Maps.{first_map}
use Rattle.apl_parts.specs.Restored.{variable_entry}
use Rattle.apl_parts.specs.Making.{put_all}
use Rattle.apl_parts.proofs.restoring.put_variables.Given as goal

abbrev pub invariant-loop-variable : goal.invariant-loop-variable
invariant-loop-variable l = record {
  single : l.names ≡ first_map l.names ∷ [];
  same : put_all (map variable_entry l.variables.items) (first_map l.names) ≡ put_all (map variable_entry l.initial.variables.items) (first_map l.initial.names);
}

abbrev pub decreases-loop-variable : goal.decreases-loop-variable
decreases-loop-variable l = vec_len l.variables
