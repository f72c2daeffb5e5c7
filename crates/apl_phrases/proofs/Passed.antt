-- Phrases that pass the value on that they take.
use Rattle.std.proofs.Common.{◌≡◌, List, [], Option, Result, Ok, Err, false, true, sym, ap, ◌∙◌}
use Rattle.std.specs.Prelude.{IfErr, IfOk}
use Rattle.std.specs.Global.{Vec}
use Rattle.apl_arrays.specs.Cells.{Arr}
use Rattle.apl_arrays.specs.declared.stop.Stop.{Stop}
use Rattle.apl_arrays.specs.declared.stop.Stop.TheVariants as stops
use Rattle.apl_code.specs.declared.instr.Action.{Action}
use Rattle.apl_code.specs.declared.instr.Action.TheVariants.{Phrase}
use Rattle.apl_code.specs.declared.row.Row.{Row}
use Rattle.apl_code.specs.declared.row.Row.TheVariants.{Group, Show}
use Rattle.apl_primitives.specs.Taken.{One}
use Rattle.apl_primitives.specs.Values.{phrase_value}
use Rattle.apl_machine_state.specs.declared.operand.Operand.{Operand}
use Rattle.apl_machine_state.specs.declared.output.OutLine.{OutLine}
use Rattle.apl_machine_state.specs.Environment.{index_origin}
use Rattle.apl_machine_state.specs.Outcomes.{of_result, shown, taken_of}
use Rattle.apl_machine_state.specs.Changes.{shown_lines}
use Rattle.apl_operands.specs.Operands.{last_value}
use Rattle.apl_operands.proofs.Fetching.{one_taken}
use Rattle.apl_phrases.specs.Effects.{PassesWriting, acted}

-- one in parentheses writes nothing
pub group_passes : (act : Action) (row : Row) (os : List (Option Operand)) (b : Arr) (lines : Vec OutLine) → act ≡ Phrase row → row ≡ Group → One b ≡ taken_of os → lines.items ≡ [] → PassesWriting (λ s. acted s act os) (last_value os) (Ok lines)
group_passes act row os b lines is of t h =
    (b, one_taken os b t, (false, h, λ s. ap (λ x. acted s x os) (is ∙ ap Phrase of) ∙ sym (ap (λ u. of_result (phrase_value Group u (index_origin s))) t)))

-- and one that is shown writes its lines
pub show_passes : (act : Action) (row : Row) (os : List (Option Operand)) (b : Arr) (written : Result (Vec OutLine) Stop) → act ≡ Phrase row → row ≡ Show → One b ≡ taken_of os → IfOk written (λ lines. lines.items ≡ shown_lines b) → IfErr written (λ stop. stop ≡ stops.Memory) → PassesWriting (λ s. acted s act os) (last_value os) written
show_passes act row os b (Ok lines) is of t h e =
    (b, one_taken os b t, (true, h, λ s. ap (λ x. acted s x os) (is ∙ ap Phrase of) ∙ sym (ap shown t)))
show_passes act row os b (Err stops.Memory) is of t h e = λ s. tt
show_passes act row os b (Err (stops.Fault fault)) is of t h e = cc
