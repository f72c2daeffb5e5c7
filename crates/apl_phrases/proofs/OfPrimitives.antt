-- What the primitives answer of a phrase is what it gives.
use Rattle.std.proofs.Common.{◌≡◌, ℕ, ℤ, List, Option, Result, Ok, Err, refl, sym, ap, ◌∙◌}
use Rattle.apl_arrays.specs.Answers.{Answers}
use Rattle.apl_arrays.specs.Cells.{Arr}
use Rattle.apl_arrays.specs.declared.stop.Stop.{Stop}
use Rattle.apl_arrays.specs.declared.stop.Stop.TheVariants as stops
use Rattle.apl_faults.specs.declared.fault.Fault.{Fault}
use Rattle.apl_symbols.specs.declared.primitive.Primitive.{Primitive}
use Rattle.apl_symbols.specs.declared.primitive.Primitive.TheVariants.{Execute}
use Rattle.apl_code.specs.declared.instr.Action.{Action}
use Rattle.apl_code.specs.declared.instr.Action.TheVariants as actions
use Rattle.apl_code.specs.declared.row.Function.TheVariants as functions
use Rattle.apl_code.specs.declared.row.Variable.TheVariants as variables
use Rattle.apl_code.specs.declared.row.Row.{Row}
use Rattle.apl_code.specs.declared.row.Row.TheVariants as rows
use Rattle.apl_primitives.specs.Taken.{Taken, One, Two}
use Rattle.apl_primitives.specs.Values.{phrase_value}
use Rattle.apl_machine_state.specs.declared.operand.Operand.{Operand}
use Rattle.apl_machine_state.specs.Environment.{Scene, index_origin}
use Rattle.apl_machine_state.specs.Outcomes.{Outcome, dyadic, monadic, of_result, outcome, taken_of}
use Rattle.apl_phrases.specs.declared.phrase.PhraseKind.TheVariants.{Gives}
use Rattle.apl_phrases.specs.Effects.{Gives as GivesIt, acted}
use Rattle.apl_phrases.specs.Kinds.{row_kind}

monadic_value : (s : Scene) (f : Primitive) (t : Taken) → row_kind (rows.Monadic (functions.Primitive f)) ≡ Gives → monadic s (functions.Primitive f) t ≡ of_result (phrase_value (rows.Monadic (functions.Primitive f)) t (index_origin s))
monadic_value s Execute t h = cc
monadic_value s f (One b) h = refl
monadic_value s f t h = refl

dyadic_value : (s : Scene) (f : Primitive) (t : Taken) → dyadic s (functions.Primitive f) t ≡ of_result (phrase_value (rows.Dyadic (functions.Primitive f)) t (index_origin s))
dyadic_value s f (Two a b) = refl
dyadic_value s f t = refl

-- a row of primitives
row_value : (s : Scene) (r : Row) (os : List (Option Operand)) → row_kind r ≡ Gives → outcome s r os ≡ of_result (phrase_value r (taken_of os) (index_origin s))
row_value s (rows.Index n) os h = cc
row_value s (rows.Read v) os h = cc
row_value s (rows.Call (variables.Name name)) os h = cc
row_value s (rows.Call (variables.System name)) os h = cc
row_value s (rows.Assign (variables.Name name)) os h = cc
row_value s (rows.Assign (variables.System name)) os h = cc
row_value s (rows.AssignIndexed (variables.Name name)) os h = cc
row_value s (rows.AssignIndexed (variables.System name)) os h = cc
row_value s rows.Show os h = cc
row_value s (rows.Monadic (functions.Primitive f)) os h = monadic_value s f (taken_of os) h
row_value s (rows.Monadic (functions.Name name)) os h = cc
row_value s (rows.Monadic (functions.System name)) os h = cc
row_value s (rows.Dyadic (functions.Primitive f)) os h = dyadic_value s f (taken_of os)
row_value s (rows.Dyadic (functions.Name name)) os h = cc
row_value s (rows.Dyadic (functions.System name)) os h = cc
row_value s r os h = refl

answered : (answer : Result Arr Stop) (defined : Result Arr Fault) (o : Outcome) → Answers (λ z. z) defined answer → o ≡ of_result defined → GivesIt answer o
answered (Ok a) defined o h e = e ∙ ap of_result h
answered (Err (stops.Fault f)) defined o h e = e ∙ ap of_result h
answered (Err stops.Memory) defined o h e = tt

-- as it is called, with an index origin by which it has the same value
pub row_gives : (answer : Result Arr Stop) (s : List ℤ → Scene) (act : Action) (r : Row) (os : List (Option Operand)) (t : Taken) (o : ℕ) → act ≡ actions.Phrase r → row_kind r ≡ Gives → t ≡ taken_of os → ((ns : List ℤ) → phrase_value r t o ≡ phrase_value r t (index_origin (s ns))) → Answers (λ z. z) (phrase_value r t o) answer → (ns : List ℤ) → GivesIt answer (acted (s ns) act os)
row_gives answer s act r os t o is kind same any answers ns =
    answered answer (phrase_value r t o) (acted (s ns) act os) answers
    (ap (λ x. acted (s ns) x os) is ∙ row_value (s ns) r os kind ∙ ap (λ u. of_result (phrase_value r u (index_origin (s ns)))) (sym same) ∙ sym (ap of_result (any ns)))
