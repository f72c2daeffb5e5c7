-- Index lists of one slot.
use Rattle.std.proofs.Common.{◌≡◌, List, [], ◌∷◌, Option, Some, None, map, refl, ap}
use Rattle.apl_arrays.specs.Cells.{Arr}
use Rattle.apl_machine_state.specs.declared.operand.Operand.{Operand}
use Rattle.apl_machine_state.specs.declared.operand.Operand.TheVariants.{Value, Slots}
use Rattle.std.specs.Prelude.{IfSome}
use Rattle.apl_machine_state.specs.Environment.{Scene}
use Rattle.apl_machine_state.specs.Outcomes.{Makes, operand_value, outcome}
use Rattle.apl_code.specs.declared.instr.Action.{Action}
use Rattle.apl_code.specs.declared.instr.Action.TheVariants as actions
use Rattle.apl_code.specs.declared.row.Row.{Row}
use Rattle.apl_phrases.specs.declared.phrase.PhraseKind.TheVariants.{Lists}
use Rattle.apl_phrases.specs.Effects.{acted}
use Rattle.apl_phrases.specs.Kinds.{phrase_kind, row_kind}
use Rattle.apl_phrases.proofs.Rows.{index_row}
use Rattle.apl_operands.specs.Operands.{one_value}

-- one value alone makes a list of one slot
pub one_slot : (os : List (Option Operand)) (a : Arr) → one_value os ≡ Some a → map operand_value os ≡ Some a ∷ []
one_slot [] a h = cc
one_slot (None ∷ os) a h = cc
one_slot (Some (Slots k) ∷ os) a h = cc
one_slot (Some (Value b) ∷ []) a h = cc
one_slot (Some (Value b) ∷ o ∷ os) a h = cc

-- and only it does
pub alone_in_list : (os : List (Option Operand)) (a : Arr) → map operand_value os ≡ Some a ∷ [] → one_value os ≡ Some a
alone_in_list [] a h = cc
alone_in_list (None ∷ os) a h = cc
alone_in_list (Some (Slots k) ∷ os) a h = cc
alone_in_list (Some (Value b) ∷ []) a h = cc
alone_in_list (Some (Value b) ∷ o ∷ os) a h = cc

-- what makes an index list makes one of all its operands
pub makes_list : (s : Scene) (x : Action) (os : List (Option Operand)) → phrase_kind x ≡ Some Lists → acted s x os ≡ Makes (map operand_value os)
makes_list s actions.Box os h = refl
makes_list s (actions.Phrase r) os h = let k : row_kind r ≡ Lists = cc in ap (λ (x : Row). outcome s x os) (index_row r k).1
makes_list s (actions.End e) os h = cc

-- ---- what holds where there is something

pub if_some_weaker : {A : Type 0} (o : Option A) (P Q : A → Type 0) → ((x : A) → P x → Q x) → IfSome o P → IfSome o Q
if_some_weaker None P Q f p = tt
if_some_weaker (Some x) P Q f p = f x p

pub same_slots : (xs ys : List (Option Arr)) → Makes xs ≡ Makes ys → xs ≡ ys
same_slots xs ys h = cc

-- a scene without anything
pub anywhere : Scene
anywhere = record { maps = []; io = 1; lines = []; standing = 0 }
