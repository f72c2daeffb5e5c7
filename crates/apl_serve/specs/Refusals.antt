-- How refusals are told.
use Rattle.std.specs.Prelude.{ℕ, List, codes}
use Rattle.serde_json.specs.Data.{Data, string, object, member, no_members}
use Rattle.apl_workspace_file.specs.Trees.{whole_tree}
use Rattle.apl_workspace.specs.Numbers.{load_number}
use Rattle.apl_serve.specs.declared.error.Refusal.{Refusal}
use Rattle.apl_serve.specs.declared.error.Refusal.TheVariants.{Json, Request, Line, Running, Function, Value, Memory, Answer, Length, Load}

-- the tree of a refusal by its word
abbrev pub refused : List ℕ → Data
refused word = object (member (codes "refused") (string word) no_members)

-- The word of each refusal; that of a workspace tells its number too.
abbrev pub refusal_tree : Refusal → Data
refusal_tree Json = refused (codes "json")
refusal_tree Request = refused (codes "request")
refusal_tree Line = refused (codes "line")
refusal_tree Running = refused (codes "running")
refusal_tree Function = refused (codes "function")
refusal_tree Value = refused (codes "value")
refusal_tree Memory = refused (codes "memory")
refusal_tree Answer = refused (codes "answer")
refusal_tree Length = refused (codes "length")
refusal_tree (Load e) = object (member (codes "number") (whole_tree (load_number e)) (member (codes "refused") (string (codes "load")) no_members))
