-- Standing calls, one by one. For private clauses.
use Rattle.std.specs.Prelude.{ℕ, drop}
use Rattle.apl_names.specs.Maps.{Map, first_map}
use Rattle.apl_machine_state.specs.Environment.{environment}
use Rattle.apl_machine_state.specs.State.{State}
use Rattle.apl_machine.specs.Standing.{Seen}
use Rattle.apl_kept.specs.declared.indicator.StandingCall.{StandingCall}
use Rattle.apl_kept.specs.Indicator.{locals_of}

-- the map of the k-th newest scope
abbrev pub map_at : State → ℕ → Map
map_at s k = first_map (drop k (environment s.world s.contexts))

-- a call whose names this map has
abbrev pub standing_call : Seen → Map → StandingCall
standing_call call m = record {
  name = call.definition.header.name;
  line = call.line;
  text = call.text;
  column = call.hole;
  suspended = call.suspended;
  locals = locals_of call.definition m;
}
