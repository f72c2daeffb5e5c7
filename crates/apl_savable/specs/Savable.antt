-- Which states a workspace file can hold: those that a machine comes to.
use Rattle.std.specs.Prelude.{◌≡◌, ◌⊎◌, ◌-◌, ◌≤◌, false, List, [], ◌∷◌, map, take, length, reverse, Option, Some, None, Ok, slice_get}
use Rattle.apl_symbols.specs.declared.class.Class.{Class}
use Rattle.apl_tokens.specs.declared.token.Token.{Token}
use Rattle.apl_tokens.specs.Spelling.{IsName}
use Rattle.apl_tokens.specs.Tokens.{tokens_of}
use Rattle.apl_code.specs.declared.instr.Instr.{Instr}
use Rattle.apl_listing.specs.declared.stack.Kind.{Kind}
use Rattle.apl_listing.specs.declared.stack.Kind.TheVariants as kind
use Rattle.apl_listing.specs.Kinds.{kinds}
use Rattle.apl_translate.specs.Binding.{bound_of, names_of}
use Rattle.apl_translate.specs.Translation.{Translates}
use Rattle.apl_defn.specs.Definitions.{Text, line_of}
use Rattle.apl_names.specs.declared.binding.Binding.{Binding}
use Rattle.apl_names.specs.declared.binding.Binding.TheVariants.{Value}
use Rattle.apl_names.specs.Maps.{said}
use Rattle.apl_machine_state.specs.declared.operand.Operand.{Operand}
use Rattle.apl_machine_state.specs.Items.{Rest}
use Rattle.apl_machine_state.specs.Environment.{Context, Statement, Call, Execute, origin_name, rest_of, scalar}
use Rattle.apl_machine_state.specs.State.{State}
use Rattle.apl_order.specs.Kept.{IsKept}
use Rattle.apl_frames.specs.declared.frame.Stage.{Stage}
use Rattle.apl_frames.specs.declared.frame.Stage.TheVariants.{Ready, Pendent, Emptied}
use Rattle.apl_frames.specs.Flat.{Flat, Stands, flat_rest}
use Rattle.apl_parts.specs.Taken.{part_of}
use Rattle.apl_saved.specs.Rules.{Calls, HasNoLabel, kind_of}

-- ---- lines

-- the operands are what the instructions leave that are done; of a pendent line the answer lies on top, which has not come yet
abbrev pub AreLeft : Stage → List Kind → List Operand → Type 0
AreLeft Ready left operands = left ≡ reverse (map kind_of operands)
AreLeft Pendent left operands = left ≡ kind.Value ∷ reverse (map kind_of operands)
AreLeft Emptied left operands = Unit {0}

-- A line of a text is being done: each of its names has a class, and what is left of it is what its instructions and its operands stand for.
pub record IsUnderWay (text : Text) (rest : Rest) : Type 0 where
  pub tokens : List Token
  pub read : tokens_of text ≡ Ok tokens
  pub classes : List Class
  pub as_many : length classes ≡ length (names_of tokens)
  pub line : Flat
  pub bound : line.bound ≡ bound_of tokens classes
  pub stands : Stands line
  pub left : AreLeft line.stage (kinds [] (take line.done line.code)) line.operands
  pub is : rest ≡ flat_rest line

abbrev pub IsUnderWayIn : Text → Option Rest → Type 0
IsUnderWayIn text None = Unit {0}
IsUnderWayIn text (Some rest) = IsUnderWay text rest

-- the instruction of a line that was done last calls what stands above
pub record HasCalled (rest : Rest) (above : Context) : Type 0 where
  pub code : List Instr
  pub translates : Translates code false rest.bound.items
  pub last : Instr
  pub is_last : slice_get code (rest.done - 1) ≡ Some last
  pub calls : Calls last.action (part_of above)

abbrev pub HasCalledIn : Option Rest → Context → Type 0
HasCalledIn None above = Unit {0}
HasCalledIn (Some rest) above = HasCalled rest above

-- ---- contexts

-- a call has no ⎕IO of its own, or it is the scalar 0 or 1
abbrev pub IsOriginBy : Option Binding → Type 0
IsOriginBy None = Unit {0}
IsOriginBy (Some (Value a)) = (a ≡ scalar 0) ⊎ (a ≡ scalar 1)
IsOriginBy (Some binding) = ⊥

-- A typed or executed text has no label, and a line is under way, or a call is suspended before it.
abbrev pub IsSavableContext : Context → Type 0
IsSavableContext (Statement text rest) = HasNoLabel text × IsUnderWay text rest
IsSavableContext (Call d n locals rest) = IsOriginBy (said locals origin_name) × IsUnderWayIn (line_of d n) rest
IsSavableContext (Execute text rest) = HasNoLabel text × IsUnderWay text rest

-- what stands beneath a context has called it, if it is not suspended
abbrev pub IsCalledBy : Context → List Context → Type 0
IsCalledBy above [] = Unit {0}
IsCalledBy above (context ∷ below) = HasCalledIn (rest_of context) above

-- contexts, the newest first
abbrev pub AreSavable : List Context → Type 0
AreSavable [] = Unit {0}
AreSavable (context ∷ below) = IsSavableContext context × IsCalledBy context below × AreSavable below

-- ---- states

-- the name of a global variable is one
abbrev pub IsNamed : Text → Option Binding → Type 0
IsNamed name (Some (Value array)) = IsName name
IsNamed name binding = Unit {0}

-- a state that a machine comes to, of which a workspace file holds all once nothing runs
pub record IsSavable (s : State) : Type 0 where
  pub kept : IsKept s
  pub origin : s.world.io ≤ 1
  pub named : (name : Text) → IsNamed name (said s.world.globals name)
  pub contexts : AreSavable s.contexts
