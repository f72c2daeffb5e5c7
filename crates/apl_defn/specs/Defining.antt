-- The function that lines define, or why they define none.
use Rattle.std.specs.Prelude.{◌≡◌, ◌≤◌, ℕ, suc, List, [], ◌∷◌, ◌++◌, map, length, Option, Some, None, Result, Ok, Err, nat_lt, if◌then◌else◌}
use Rattle.apl_tokens.specs.declared.token.Token.{Token}
use Rattle.apl_tokens.specs.Kinds.{is_colon}
use Rattle.apl_tokens.specs.Tokens.{tokens_of, Answer}
use Rattle.apl_defn.specs.declared.error.DefnError.{DefnError}
use Rattle.apl_defn.specs.declared.error.DefnError.TheVariants as error
use Rattle.apl_defn.specs.Definitions.{Text, Header, Definition}
use Rattle.apl_defn.specs.Headers.{names_of}
use Rattle.apl_defn.specs.Reading.{name_in, head_of, are_distinct}

-- the line has tokens, if no fault is found
abbrev pub fault_or : Answer → ℕ → Option ℕ → Option ℕ
fault_or (Ok ts) n later = later
fault_or (Err e) n later = Some n

-- the number of the first line with a fault of its tokens, where the first line has the number n
abbrev pub first_fault : ℕ → List Text → Option ℕ
first_fault n [] = None
first_fault n (line ∷ lines) = fault_or (tokens_of line) n (first_fault (suc n) lines)

-- the error is that of the first line with a fault, unless memory ran out
abbrev pub FaultIs : DefnError → Option ℕ → Type 0
FaultIs (error.Line n) fault = fault ≡ Some n
FaultIs error.Memory fault = Unit {0}
FaultIs e fault = ⊥

-- the label of tokens: a name first, with a colon behind it
abbrev pub label_in : List Token → Option Text
label_in (t ∷ u ∷ ts) = if is_colon u.kind then name_in t.kind else None
label_in ts = None

-- the same of a text
abbrev pub label_among : Answer → Option Text
label_among (Ok ts) = label_in ts
label_among (Err e) = None

-- a label with the number of its line
abbrev pub labelled : ℕ → Option Text → List (Text × ℕ)
labelled n None = []
labelled n (Some label) = (label, n) ∷ []

-- the labels of lines in their order, where the first line has the number n
abbrev pub labels_from : ℕ → List Text → List (Text × ℕ)
labels_from n [] = []
labels_from n (line ∷ lines) = labelled n (label_among (tokens_of line)) ++ labels_from (suc n) lines

-- the names that must differ: those of the header, and the labels
abbrev pub all_names : Definition → List Text
all_names d = names_of d.header ++ map (λ label. label.0) d.labels

-- a definition is refused where a name stands twice
abbrev pub once_each : Definition → Result Definition DefnError
once_each d = if are_distinct (all_names d) then Ok d else Err error.Twice

-- a header and lines, with their labels
abbrev pub made : Header → List Text → Definition
made h lines = record { header = h; lines = lines; labels = labels_from 1 lines }

-- lines without a fault
abbrev pub with_lines : Header → List Text → Option ℕ → Result Definition DefnError
with_lines h lines None = once_each (made h lines)
with_lines h lines (Some n) = Err (error.Line n)

-- lines behind a header
abbrev pub with_head : Option Header → List Text → Result Definition DefnError
with_head None lines = Err error.Header
with_head (Some h) lines = if nat_lt 999 (length lines) then Err error.TooLong else with_lines h lines (first_fault 1 lines)

-- the function that lines define, the header first: the header is looked at before the number of lines, that before their
-- tokens, and those before names that stand twice
unfoldable pub defined_of : List Text → Result Definition DefnError
defined_of [] = Err error.Header
defined_of (first ∷ lines) = with_head (head_of first) lines

-- lines behind some header define it
abbrev pub IsDefined : Definition → Type 0
IsDefined d = (first : Text) × (defined_of (first ∷ d.lines) ≡ Ok d)

-- the header is some text's, and the lines are few and without a fault
pub record IsWhole (h : Header) (lines : List Text) : Type 0 where
  pub first : Text
  pub header : head_of first ≡ Some h
  pub few : length lines ≤ 999
  pub whole : first_fault 1 lines ≡ None
