-- The listings of a function's lines, as they would begin now.
use Rattle.std.specs.Prelude.{◌≡◌, ℕ, false, List, Option, Some, None, Ok, if◌then◌else◌}
use Rattle.std.specs.List.{AllZip}
use Rattle.apl_symbols.specs.Names.{is_short_enough}
use Rattle.apl_tokens.specs.declared.token.Token.{Token}
use Rattle.apl_tokens.specs.Tokens.{tokens_of}
use Rattle.apl_code.specs.declared.instr.Instr.{Instr}
use Rattle.apl_listing.specs.Listing.{listed}
use Rattle.apl_translate.specs.Lines.{Line}
use Rattle.apl_translate.specs.Translation.{Translates}
use Rattle.apl_defn.specs.Definitions.{Text, Definition}
use Rattle.apl_machine_state.specs.Calls.{line_begun}
use Rattle.apl_machine_state.specs.State.{State, definition_of}

-- the line of these tokens if it began now: its names have the classes that they have in this state
abbrev pub bound_now : State → List Token → Line
bound_now s tokens = (line_begun s.world s.contexts tokens).bound

-- these bytes are the listing of a bound line's code
pub record IsListing (line : Line) (bytes : List ℕ) : Type 0 where
  pub code : List Instr
  pub translates : Translates code false line.items
  pub lists : bytes ≡ listed 0 code

-- these bytes are the listing of the line with this text
pub record Lists (s : State) (text : Text) (bytes : List ℕ) : Type 0 where
  pub tokens : List Token
  pub read : tokens_of text ≡ Ok tokens
  pub listing : IsListing (bound_now s tokens) bytes

-- the global function that a text names, if it is short enough for a name
abbrev pub function_named : State → Text → Option Definition
function_named s text = if is_short_enough text then definition_of s text else None

-- a function has a listing of each of its lines, in their order; what is no function has none
abbrev pub AreListings : State → Option Definition → Option (List (List ℕ)) → Type 0
AreListings s None None = Unit {0}
AreListings s None (Some listings) = ⊥
AreListings s (Some d) None = ⊥
AreListings s (Some d) (Some listings) = AllZip (Lists s) d.lines listings
