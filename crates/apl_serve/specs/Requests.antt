-- What a request asks for.
use Rattle.std.specs.Prelude.{ℕ, nat_le, Bool, List, codes, Option, Some, None, option_map, option_and_then, if◌then◌else◌}
use Rattle.std.specs.Str.{bytes_eq}
use Rattle.serde_json.specs.Data.{Data, null, boolean, number, string, array, object, Members, no_members, member}
use Rattle.serde_json.specs.Find.{as_bool, as_number, as_object, as_str, as_u64}

-- A line is typed; at most so many steps are made; what runs is abandoned; the names, the state indicator, the lines of a function or the value
-- of a name are asked for, or the file of the workspace; a session on the workspace of a tree begins, on a clear one where the tree is null.
pub data Request : Type 0 where
  Line : (bytes : List ℕ) → Request
  Advance : (count : ℕ) → Request
  Interrupt : Request
  Names : Request
  Indicator : Request
  Listing : (name : List ℕ) → Request
  Value : (name : List ℕ) → Request
  Save : Request
  Open : (tree : Data) → Request

-- at most 1,000,000,000 steps
abbrev pub advance_of : Data → Option Request
advance_of d = option_and_then (λ n. if nat_le n 1000000000 then Some (Advance n) else None) (option_and_then as_u64 (as_number d))

abbrev pub where_true : Request → Option Bool → Option Request
where_true request None = None
where_true request (Some b) = if b then Some request else None

abbrev pub look_at : Option (List ℕ) → Option Request
look_at None = None
look_at (Some word) = if bytes_eq word (codes "names") then Some Names else (if bytes_eq word (codes "indicator") then Some Indicator else None)

-- a workspace is an object, and a clear one null
abbrev pub open_of : Data → Option Request
open_of null = Some (Open null)
open_of (boolean b) = None
open_of (number n) = None
open_of (string s) = None
open_of (array ds) = None
open_of (object ms) = Some (Open (object ms))

-- what is seen of a session, by the key of the request
abbrev pub sight_of : List ℕ → Data → Option Request
sight_of key d =
    if bytes_eq key (codes "look") then look_at (as_str d)
    else (if bytes_eq key (codes "listing") then option_map Listing (as_str d)
    else (if bytes_eq key (codes "value") then option_map Value (as_str d)
    else (if bytes_eq key (codes "save") then where_true Save (as_bool d) else None)))

-- what is asked for by this key
abbrev pub asked : List ℕ → Data → Option Request
asked key d =
    if bytes_eq key (codes "type") then option_map Line (as_str d)
    else (if bytes_eq key (codes "advance") then advance_of d
    else (if bytes_eq key (codes "interrupt") then where_true Interrupt (as_bool d)
    else (if bytes_eq key (codes "open") then open_of d else sight_of key d)))

-- the key and the value of the one member of an object with one
abbrev pub only_member : Members → Option (List ℕ × Data)
only_member no_members = None
only_member (member key d no_members) = Some (key, d)
only_member (member key d (member l e ms)) = None

-- what a tree asks for, if it is a request: an object with one member
abbrev pub request_of : Data → Option Request
request_of d = option_and_then (λ m. asked m.0 m.1) (option_and_then only_member (as_object d))
