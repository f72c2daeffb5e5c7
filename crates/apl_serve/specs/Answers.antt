-- What a request does to the state of a session, and what it is answered. Memory may run out at any time; nothing that was written is lost.
use Rattle.std.specs.Prelude.{◌≡◌, ◌≢◌, ◌⊎◌, ℕ, ◌≤◌, ◌<◌, List, [], ◌++◌, length, codes, IsTrue, IsFalse, Option, Some, None, option_map, option_and_then, Result, Ok, Err, ⊤}
use Rattle.serde_json.specs.Data.{Data}
use Rattle.serde_json.specs.Find.{as_null}
use Rattle.apl_charset.specs.Decoding.{decoded}
use Rattle.apl_defn.specs.Definitions.{Text}
use Rattle.apl_machine_state.specs.State.{State, clear, interrupt, is_idle, steps, value_of}
use Rattle.apl_machine.specs.Counts.{steps_made}
use Rattle.apl_session.specs.Defining.{closed, name_in}
use Rattle.apl_session.specs.Events.{typed}
use Rattle.apl_workspace_file.specs.Json.{IsJson}
use Rattle.apl_workspace_file.specs.Trees.{list_tree}
use Rattle.apl_workspace.specs.Refusals.{IsUnloaded}
use Rattle.apl_workspace.specs.Saved.{IsLoaded, IsSaved, IsSavedAs, settled}
use Rattle.apl_workspace.specs.declared.error.LoadError.{LoadError}
use Rattle.apl_workspace.specs.declared.error.LoadError.TheVariants as load
use Rattle.apl_kept.specs.Indicator.{indicator}
use Rattle.apl_kept.specs.Keeping.{IsOneLine}
use Rattle.apl_kept.specs.Names.{names_of, function_named, source_of}
use Rattle.apl_serve.specs.Requests.{Request, Line, Advance, Interrupt, Names, Indicator, Listing, Value, Save, Open, request_of}
use Rattle.apl_serve.specs.Refusals.{refusal_tree}
use Rattle.apl_serve.specs.Trees.{told_tree, call_tree, named_tree, array_tree, text_tree, answer_tree, line_of}
use Rattle.apl_serve.specs.declared.error.Refusal.{Refusal}
use Rattle.apl_serve.specs.declared.error.Refusal.TheVariants as refusal

-- the answer, or a refusal
abbrev pub Outcome : Type 0
Outcome = Result (List ℕ) Refusal

-- A session in this state tells how it stands, and how many steps were made where some were asked for, and what it has written is taken; or there is
-- no memory for that, and the state stays.
abbrev pub Tells : Option ℕ → State → Outcome → State → Type 0
Tells steps s (Ok text) s' = (text ≡ line_of (told_tree steps s)) × (s' ≡ record s { output = [] })
Tells steps s (Err refusal.Answer) s' = s' ≡ s
Tells steps s (Err e) s' = ⊥

-- A line is typed where it can be and nothing runs. Its steps are still to be made.
abbrev pub Types : List ℕ → State → Outcome → State → Type 0
Types line s (Err refusal.Line) s' = (¬ IsOneLine line) × (s' ≡ s)
Types line s (Err refusal.Running) s' = IsOneLine line × IsFalse (is_idle s) × (s' ≡ s)
Types line s (Err refusal.Memory) s' = IsOneLine line × IsTrue (is_idle s) × (s' ≡ s)
Types line s outcome s' = IsOneLine line × IsTrue (is_idle s) × Tells None (typed s line) outcome s'

-- At most so many steps are made, or less where memory runs out.
abbrev pub Advances : ℕ → State → Outcome → State → Type 0
Advances count s (Err refusal.Memory) s' = (done : ℕ) × (done < count) × (s' ≡ steps done s)
Advances count s outcome s' = Tells (Some (steps_made count s)) (steps count s) outcome s'

-- What runs is abandoned.
abbrev pub Interrupts : State → Outcome → State → Type 0
Interrupts s (Err refusal.Memory) s' = s' ≡ s
Interrupts s outcome s' = Tells None (interrupt s) outcome s'

abbrev pub IsOpenedBy : Option ⊤ → Data → State → Type 0
IsOpenedBy None tree s = IsSaved tree s
IsOpenedBy (Some is_null) tree s = s ≡ clear

-- the state that a tree stands for; null stands for a clear one
abbrev pub IsOpened : Data → State → Type 0
IsOpened tree s = IsOpenedBy (as_null tree) tree s

-- the tree stands for no state, for this reason
abbrev pub IsUnopened : Data → LoadError → Type 0
IsUnopened tree e = ((s : State) → ¬ IsOpened tree s) × ((bytes : List ℕ) × IsJson bytes tree × IsUnloaded bytes e × (e ≢ load.Memory))

-- The session begins anew in the state that a tree stands for.
abbrev pub Opens : Data → State → Outcome → State → Type 0
Opens tree s (Err (refusal.Load e)) s' = IsUnopened tree e × (s' ≡ s)
Opens tree s (Err refusal.Memory) s' = s' ≡ s
Opens tree s outcome s' = (t : State) × IsOpened tree t × Tells None t outcome s'

-- What is asked for is answered by this tree, or there is nothing such, which is refused so.
abbrev pub Answered : Option Data → Refusal → Outcome → Type 0
Answered (Some tree) e (Ok text) = text ≡ line_of tree
Answered None e (Err f) = (f ≡ e) ⊎ (f ≡ refusal.Memory)
Answered (Some tree) e (Err f) = f ≡ refusal.Memory
Answered None e (Ok text) = ⊥

-- The file of the workspace is answered, where nothing runs. What is loaded of it is the same state, without its open definition, all its output taken.
abbrev pub Saves : State → Outcome → Type 0
Saves s (Ok text) = IsTrue (is_idle s) × ((file : List ℕ) × IsSavedAs file (closed s) × IsLoaded file (settled s) × (text ≡ codes "{\"workspace\":" ++ file ++ codes "}\n"))
Saves s (Err refusal.Running) = IsFalse (is_idle s)
Saves s (Err refusal.Memory) = IsTrue (is_idle s)
Saves s (Err e) = ⊥

-- the name that bytes spell
abbrev pub named : List ℕ → Option Text
named bytes = option_and_then name_in (decoded bytes)

abbrev pub listing_answer : State → List ℕ → Option Data
listing_answer s bytes = option_map (λ lines. answer_tree (codes "listing") (list_tree text_tree lines)) (option_and_then (λ word. option_map source_of (function_named s word)) (decoded bytes))

abbrev pub value_answer : State → List ℕ → Option Data
value_answer s bytes = option_map (λ a. answer_tree (codes "value") (array_tree a)) (option_and_then (value_of s) (named bytes))

-- What a request does in a state: what it is answered, and the state it leaves. What is no request is refused.
abbrev pub Does : Option Request → State → Outcome → State → Type 0
Does None s outcome s' = (outcome ≡ Err refusal.Request) × (s' ≡ s)
Does (Some (Line line)) s outcome s' = Types line s outcome s'
Does (Some (Advance count)) s outcome s' = Advances count s outcome s'
Does (Some Interrupt) s outcome s' = Interrupts s outcome s'
Does (Some (Open tree)) s outcome s' = Opens tree s outcome s'
Does (Some Names) s outcome s' = Answered (Some (answer_tree (codes "names") (list_tree named_tree (names_of s)))) refusal.Memory outcome × (s' ≡ s)
Does (Some Indicator) s outcome s' = Answered (Some (answer_tree (codes "indicator") (list_tree call_tree (indicator s.contexts)))) refusal.Memory outcome × (s' ≡ s)
Does (Some (Listing name)) s outcome s' = Answered (listing_answer s name) refusal.Function outcome × (s' ≡ s)
Does (Some (Value name)) s outcome s' = Answered (value_answer s name) refusal.Value outcome × (s' ≡ s)
Does (Some Save) s outcome s' = Saves s outcome × (s' ≡ s)

-- the most bytes of a request
abbrev pub most : ℕ
most = 100000000

-- A request is read and done.
abbrev pub DoesRead : List ℕ → State → Outcome → State → Type 0
DoesRead request s outcome s' = (length request ≤ most) × ((tree : Data) × IsJson request tree × Does (request_of tree) s outcome s')

-- What the bytes of a request do in a state. There may be no memory to read them.
abbrev pub DoesBytes : List ℕ → State → Outcome → State → Type 0
DoesBytes request s (Err refusal.Length) s' = (most < length request) × (s' ≡ s)
DoesBytes request s (Err refusal.Json) s' = (length request ≤ most) × ((tree : Data) → ¬ IsJson request tree) × (s' ≡ s)
DoesBytes request s (Err refusal.Memory) s' = (s' ≡ s) ⊎ DoesRead request s (Err refusal.Memory) s'
DoesBytes request s outcome s' = DoesRead request s outcome s'

-- what is written
abbrev pub answer_of : Outcome → List ℕ
answer_of (Ok text) = text
answer_of (Err e) = line_of (refusal_tree e)

-- A request is answered so, and leaves this state.
abbrev pub Answers : State → List ℕ → State → List ℕ → Type 0
Answers s request s' answer = (outcome : Outcome) × DoesBytes request s outcome s' × (answer ≡ answer_of outcome)
