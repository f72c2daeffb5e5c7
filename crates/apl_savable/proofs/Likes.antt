-- A context that has been called, whatever its line and its names are now.
use Rattle.std.proofs.Common.{◌≡◌, ℕ, List, [], ◌∷◌, Option, Some, None, refl, subst}
use Rattle.apl_symbols.specs.declared.primitive.Primitive.TheVariants as primitives
use Rattle.apl_code.specs.declared.instr.Action.{Action}
use Rattle.apl_code.specs.declared.instr.Action.TheVariants.{Phrase}
use Rattle.apl_code.specs.declared.row.Row.TheVariants as rows
use Rattle.apl_code.specs.declared.row.Function.TheVariants as functions
use Rattle.apl_code.specs.declared.row.Variable.TheVariants as variables
use Rattle.apl_defn.specs.Definitions.{Text, Definition}
use Rattle.apl_names.specs.Maps.{Map}
use Rattle.apl_machine_state.specs.Items.{Rest}
use Rattle.apl_machine_state.specs.Environment.{Context, Statement, Call, Execute, rest_of, with_rest}
use Rattle.apl_parts.specs.Taken.{part_of}
use Rattle.apl_saved.specs.Rules.{Calls}
use Rattle.apl_savable.specs.Savable.{HasCalledIn, IsCalledBy}

-- a context of the same kind, a call of the same function
abbrev pub IsLike : Context → Context → Type 0
IsLike (Statement text rest) (Statement other after) = Unit {0}
IsLike (Call d n locals rest) (Call e m names after) = d ≡ e
IsLike (Execute text rest) (Execute other after) = Unit {0}
IsLike c d = ⊥

call-like : (a : Action) (d : Definition) (n m : ℕ) (locals names : Map) (rest after : Option Rest) → Calls a (part_of (Call d n locals rest)) → Calls a (part_of (Call d m names after))
call-like (Phrase (rows.Call (variables.Name name))) d n m locals names rest after h = h
call-like (Phrase (rows.Monadic (functions.Name name))) d n m locals names rest after h = h
call-like (Phrase (rows.Dyadic (functions.Name name))) d n m locals names rest after h = h
call-like (Phrase (rows.Monadic (functions.Primitive primitives.Execute))) d n m locals names rest after h = absurd h
call-like a d n m locals names rest after h = absurd h

execute-like : (a : Action) (text other : Text) (rest after : Rest) → Calls a (part_of (Execute text rest)) → Calls a (part_of (Execute other after))
execute-like (Phrase (rows.Monadic (functions.Primitive primitives.Execute))) text other rest after h = h
execute-like (Phrase (rows.Call (variables.Name name))) text other rest after h = absurd h
execute-like (Phrase (rows.Monadic (functions.Name name))) text other rest after h = absurd h
execute-like (Phrase (rows.Dyadic (functions.Name name))) text other rest after h = absurd h
execute-like a text other rest after h = absurd h

statement-like : (a : Action) (text other : Text) (rest after : Rest) → Calls a (part_of (Statement text rest)) → Calls a (part_of (Statement other after))
statement-like (Phrase (rows.Call (variables.Name name))) text other rest after h = absurd h
statement-like (Phrase (rows.Monadic (functions.Name name))) text other rest after h = absurd h
statement-like (Phrase (rows.Dyadic (functions.Name name))) text other rest after h = absurd h
statement-like (Phrase (rows.Monadic (functions.Primitive primitives.Execute))) text other rest after h = absurd h
statement-like a text other rest after h = absurd h

calls-like : (a : Action) (c d : Context) → IsLike c d → Calls a (part_of c) → Calls a (part_of d)
calls-like a (Statement text rest) (Statement other after) l h = statement-like a text other rest after h
calls-like a (Call d n locals rest) (Call e m names after) l h = subst (λ (f : Definition). Calls a (part_of (Call f m names after))) l (call-like a d n m locals names rest after h)
calls-like a (Execute text rest) (Execute other after) l h = execute-like a text other rest after h
calls-like a (Statement text rest) (Call d n locals after) l h = absurd l
calls-like a (Statement text rest) (Execute other after) l h = absurd l
calls-like a (Call d n locals after) (Statement text rest) l h = absurd l
calls-like a (Call d n locals after) (Execute text rest) l h = absurd l
calls-like a (Execute text rest) (Statement other after) l h = absurd l
calls-like a (Execute text rest) (Call d n locals after) l h = absurd l

called-in-like : (o : Option Rest) (c d : Context) → IsLike c d → HasCalledIn o c → HasCalledIn o d
called-in-like None c d l h = tt
called-in-like (Some rest) c d l h = record { code = h.code; translates = h.translates; last = h.last; is_last = h.is_last; calls = calls-like h.last.action c d l h.calls }

pub called-like : (c d : Context) (below : List Context) → IsLike c d → IsCalledBy c below → IsCalledBy d below
called-like c d [] l h = tt
called-like c d (b ∷ bs) l h = called-in-like (rest_of b) c d l h

pub rest-like : (rest : Rest) (c : Context) → IsLike c (with_rest rest c)
rest-like rest (Statement text old) = tt
rest-like rest (Call d n locals old) = refl
rest-like rest (Execute text old) = tt
