use Rattle.std.proofs.Common.{◌≡◌, All, [], ◌∷◌, map, vec_len}
use Rattle.apl_names.specs.Maps.{first_map}
use Rattle.apl_parts.specs.Restored.{AreFew, function_entry}
use Rattle.apl_parts.specs.Making.{put_all, vectors_onto}
use Rattle.apl_parts.proofs.restoring.put_functions.Given as goal

abbrev pub invariant-loop-part : goal.invariant-loop-part
invariant-loop-part l = record {
  few : All AreFew l.functions.items;
  single : l.names ≡ first_map l.names ∷ [];
  same : put_all (map function_entry l.functions.items) (first_map l.names) ≡ put_all (map function_entry l.initial.functions.items) (first_map l.initial.names);
  stops : vectors_onto (λ f. f.stops) l.functions.items l.stops ≡ vectors_onto (λ f. f.stops) l.initial.functions.items l.initial.stops;
  traces : vectors_onto (λ f. f.traces) l.functions.items l.traces ≡ vectors_onto (λ f. f.traces) l.initial.functions.items l.initial.traces;
}

abbrev pub decreases-loop-part : goal.decreases-loop-part
decreases-loop-part l = vec_len l.functions
