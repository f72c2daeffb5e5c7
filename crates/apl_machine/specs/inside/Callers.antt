-- The standing calls among contexts.
use Rattle.std.specs.Prelude.{List, [], ◌∷◌}
use Rattle.apl_contexts.specs.Callers.{Caller}
use Rattle.apl_contexts.specs.declared.context.Context.{Context}
use Rattle.apl_contexts.specs.declared.context.Context.TheVariants.{Statement, Call, Execute}

-- the standing calls, newest first
abbrev pub callers_in : List Context → List Caller
callers_in [] = []
callers_in (Statement s ∷ cs) = callers_in cs
callers_in (Call c ∷ cs) = c ∷ callers_in cs
callers_in (Execute s ∷ cs) = callers_in cs
