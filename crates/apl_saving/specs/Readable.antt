-- Parts whose lines have tokens.
use Rattle.std.specs.Prelude.{◌≡◌, true, All, is_ok}
use Rattle.apl_tokens.specs.Tokens.{tokens_of}
use Rattle.apl_defn.specs.Definitions.{is_line}
use Rattle.apl_machine_state.specs.State.{State}
use Rattle.apl_order.specs.Kept.{IsKept}
use Rattle.apl_parts.specs.declared.parts.ContextPart.{ContextPart}
use Rattle.apl_parts.specs.declared.parts.ContextPart.TheVariants.{Statement, Call, Execute}
use Rattle.apl_parts.specs.Workspaces.{Pieces}
use Rattle.apl_parts.specs.Taken.{parts_of}

-- The text of a statement has tokens, and so has that of an execute; a call stands at a line of its function.
abbrev pub IsReadable : ContextPart → Type 0
IsReadable (Statement s) = is_ok (tokens_of s.text) ≡ true
IsReadable (Call c) = is_line c.definition c.at ≡ true
IsReadable (Execute s) = is_ok (tokens_of s.text) ≡ true

-- each context is such
abbrev pub AreReadable : Pieces → Type 0
AreReadable p = All IsReadable p.contexts

-- the parts of a state that a machine can have are
abbrev pub KeptPartsAreReadable : Type 0
KeptPartsAreReadable = (s : State) → IsKept s → AreReadable (parts_of s)
