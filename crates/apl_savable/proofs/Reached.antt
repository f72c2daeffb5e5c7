-- Each state that a machine comes to can be saved, and is loaded again.
use Rattle.std.proofs.Common.{List, [], ◌∷◌, ◌++◌, Option}
use Rattle.apl_defn.specs.Definitions.{Text}
use Rattle.apl_machine_state.specs.declared.output.OutLine.{OutLine}
use Rattle.apl_machine_state.specs.State.{State, clear, with_lines}
use Rattle.apl_machine_state.specs.Objects.{cleared, erased, without_global}
use Rattle.apl_savable.specs.Savable.{IsSavable}
use Rattle.apl_savable.specs.Reached.{IsReached, ReachedIsSavable, ReachedIsTheSame, new, loaded, stepped, interrupted, typed, with_definition, without_objects, emptied, told, output_taken, defining}
use Rattle.apl_savable.proofs.Clear.{clear-savable}
use Rattle.apl_savable.proofs.Keeping.{definition-savable, erasure-savable, interrupt-savable, statement-savable, step-savable}
use Rattle.apl_savable.proofs.Loaded.{loaded-savable}
use Rattle.apl_savable.proofs.Ruled.{parts-ruled}
use Rattle.apl_savable.proofs.Same.{saved-same}

-- what is written and not taken yet is no part of what is kept
told-savable : (s : State) (lines : List OutLine) → IsSavable s → IsSavable (record s { output = lines })
told-savable s lines h = record { kept = record { order = h.kept.order; keeps = h.kept.keeps }; origin = h.origin; named = h.named; contexts = h.contexts }

-- nor is an open definition
pub defining-savable : (s : State) (lines : Option (List Text)) → IsSavable s → IsSavable (record s { definition = lines })
defining-savable s lines h = record { kept = record { order = h.kept.order; keeps = h.kept.keeps }; origin = h.origin; named = h.named; contexts = h.contexts }

pub erasures-savable : (names : List Text) (s : State) → IsSavable s → IsSavable (erased names s)
erasures-savable [] s h = h
erasures-savable (n ∷ ns) s h = erasures-savable ns (without_global n s) (erasure-savable s n h)

pub with_lines-savable : (s : State) (lines : List OutLine) → IsSavable s → IsSavable (with_lines lines s)
with_lines-savable s lines h = told-savable s (s.output ++ lines) h

pub cleared-savable : (s : State) → IsSavable (cleared s)
cleared-savable s = told-savable clear s.output clear-savable

savable : {s : State} → IsReached s → IsSavable s
savable new = clear-savable
savable (loaded parts r) = loaded-savable parts r
savable (stepped s h) = step-savable s (savable h)
savable (interrupted s h) = interrupt-savable s (savable h)
savable (typed s text idle h) = statement-savable s text idle (savable h)
savable (with_definition s d whole h) = definition-savable s d whole (savable h)
savable (without_objects s names h) = erasures-savable names s (savable h)
savable (emptied s h) = cleared-savable s
savable (told s lines h) = with_lines-savable s lines (savable h)
savable (output_taken s h) = told-savable s [] (savable h)
savable (defining s lines h) = defining-savable s lines (savable h)

pub reached-savable : ReachedIsSavable
reached-savable s h = savable h

pub reached-same : ReachedIsTheSame
reached-same s h idle = (parts-ruled s (savable h) idle, saved-same s (savable h) idle)
