-- The arguments of the command line, as the parser reads them.
use Rattle.std.specs.Prelude.{List, Some, true, false, codes}
use Rattle.clap.specs.Words.{App, Row, Rule, Text, matches_of, new_app, new_rule, with_rule}
use Rattle.clap.specs.declared.builder.action.ArgAction.TheVariants.{SetTrue}
use Rattle.clap.specs.declared.builder.value_parser.ValueParser.TheVariants as parser

-- an option with one value
abbrev pub option_rule : Text → Rule
option_rule name = record (new_rule name) { long = Some name; value_names = 1 }

-- a flag, which has none
abbrev pub flag_rule : Text → Rule
flag_rule name = record (new_rule name) { long = Some name; action = Some SetTrue }

abbrev pub workspace_rule : Rule
workspace_rule = record (new_rule (codes "WS")) { index = Some 1 }

abbrev pub save_rule : Rule
save_rule = option_rule (codes "save")

abbrev pub steps_rule : Rule
steps_rule = record (option_rule (codes "steps")) { parser = Some (parser.Unsigned 1 1000000000) }

-- it stands with some others alone, or without them, as `desk` does
abbrev pub code_rule : Rule
code_rule = record (option_rule (codes "code")) { is_free = false }

abbrev pub resume_rule : Rule
resume_rule = flag_rule (codes "resume")

abbrev pub desk_rule : Rule
desk_rule = record (flag_rule (codes "desk")) { is_free = false }

-- it stands with a workspace alone
abbrev pub serve_rule : Rule
serve_rule = record (flag_rule (codes "serve")) { is_free = false }

-- the program's name and version
abbrev pub named : App
named = record (new_app (codes "apl")) { top = record (new_app (codes "apl")).top { has_version = true } }

abbrev pub apl : App
apl = with_rule (with_rule (with_rule (with_rule (with_rule (with_rule (with_rule named workspace_rule) save_rule) steps_rule) code_rule) resume_rule) desk_rule) serve_rule

-- what the parser finds in these words, of which the first is the program's name: the values of each argument
unfoldable pub found_in : List Text → List Row
found_in words = matches_of apl words
