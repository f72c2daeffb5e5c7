-- A machine that is put together is that of its parts.
use Rattle.std.proofs.Common.{◌≡◌, ℕ, List, [], ap, ◌∙◌}
use Rattle.apl_names.specs.Maps.{Map}
use Rattle.apl_vectors.specs.Vectors.{Vectors}
use Rattle.apl_machine_state.specs.declared.output.OutLine.{OutLine}
use Rattle.apl_machine_state.specs.Environment as model
use Rattle.apl_machine_state.specs.State.{State, clear}
use Rattle.apl_contexts.specs.declared.context.Context.{Context}
use Rattle.apl_contexts.specs.Contexts.{dressed, under}
use Rattle.apl_parts.specs.Workspaces.{Pieces}
use Rattle.apl_parts.specs.Restored.{globals_of, state_of, vectors_of}
use Rattle.apl_machine.specs.Worlds.{settings, state_at}

-- a state by its fields, without output and an open definition
state_by : Map → Vectors → Vectors → ℕ → List model.Context → List OutLine → State
state_by globals stops traces origin contexts output = record clear { world = record { traces = traces; globals = globals; io = origin }; stops = stops; contexts = contexts; output = output }

pub restored_is : (p : Pieces) (ms : List Map) (stops traces : Vectors) (origin : ℕ) (cs : List Context) (output : List OutLine) → under ms cs ≡ globals_of p → stops ≡ vectors_of (λ f. f.stops) p.functions → traces ≡ vectors_of (λ f. f.traces) p.functions
    → origin ≡ p.origin → dressed ms cs ≡ (state_of p).contexts → output ≡ [] → state_at ms (settings stops traces origin) cs output ≡ state_of p
unfolding state_by
restored_is p ms stops traces origin cs output a b c d e h =
    ap (λ globals. state_by globals stops traces origin (dressed ms cs) output) a
    ∙ ap (λ vectors. state_by (globals_of p) vectors traces origin (dressed ms cs) output) b
    ∙ ap (λ vectors. state_by (globals_of p) (vectors_of (λ f. f.stops) p.functions) vectors origin (dressed ms cs) output) c
    ∙ ap (λ n. state_by (globals_of p) (vectors_of (λ f. f.stops) p.functions) (vectors_of (λ f. f.traces) p.functions) n (dressed ms cs) output) d
    ∙ ap (λ contexts. state_by (globals_of p) (vectors_of (λ f. f.stops) p.functions) (vectors_of (λ f. f.traces) p.functions) p.origin contexts output) e
    ∙ ap (state_by (globals_of p) (vectors_of (λ f. f.stops) p.functions) (vectors_of (λ f. f.traces) p.functions) p.origin (state_of p).contexts) h
