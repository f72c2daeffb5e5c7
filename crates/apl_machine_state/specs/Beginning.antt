-- What a typed text makes of an idle state.
use Rattle.std.specs.Prelude.{ℕ, List, [], ◌∷◌, Option, Some, None, Result, Ok, Err}
use Rattle.apl_faults.specs.declared.fault.Fault.{Fault}
use Rattle.apl_faults.specs.declared.fault.Fault.TheVariants.{Syntax}
use Rattle.apl_tokens.specs.declared.token.Token.{Token}
use Rattle.apl_tokens.specs.declared.line.TokenError.{TokenError}
use Rattle.apl_tokens.specs.Tokens.{tokens_of}
use Rattle.apl_defn.specs.Definitions.{Text}
use Rattle.apl_machine_state.specs.declared.output.OutLine.{OutLine}
use Rattle.apl_machine_state.specs.Reports.{report_lines}
use Rattle.apl_machine_state.specs.Environment.{Statement}
use Rattle.apl_machine_state.specs.Calls.{line_begun}
use Rattle.apl_machine_state.specs.Texts.{colon_of, column_of, fault_of}
use Rattle.apl_machine_state.specs.State.{State, with_lines}

-- the report of a fault in a text, where it has a column
abbrev pub reported : Fault → Text → Option ℕ → List OutLine
reported fault text (Some at) = report_lines fault None text at
reported fault text None = []

-- the report of a text that is no line
abbrev pub token_fault : Text → TokenError → List OutLine
token_fault text error = reported (fault_of error) text (column_of error)

abbrev pub started : State → Text → List Token → Option ℕ → State
-- a typed line has no label
started s text tokens (Some at) = with_lines (report_lines Syntax None text at) s
started s text tokens None = record s { contexts = Statement text (line_begun s.world s.contexts tokens) ∷ s.contexts }

abbrev pub begun_by : State → Text → Result (List Token) TokenError → State
begun_by s text (Ok tokens) = started s text tokens (colon_of tokens)
begun_by s text (Err error) = with_lines (token_fault text error) s

-- the text's statement begins, with the classes that its names have now; or its fault is reported
abbrev pub begun : State → Text → State
begun s text = begun_by s text (tokens_of text)
