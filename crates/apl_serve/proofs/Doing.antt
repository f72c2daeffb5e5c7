-- What the tree of a request does, its bytes do.
use Rattle.std.proofs.Common.{◌≡◌, ◌≤◌, ◌⊎◌, ℕ, List, Option, Some, None, length, inl, inr}
use Rattle.std.specs.Prelude.{Ok, Err}
use Rattle.serde_json.specs.Data.{Data}
use Rattle.apl_machine_state.specs.State.{State}
use Rattle.apl_workspace_file.specs.Json.{IsJson}
use Rattle.apl_serve.specs.Answers.{Answered, Does, DoesBytes, Outcome, listing_answer, most, value_answer}
use Rattle.apl_serve.specs.Requests.{Request, Line, Advance, Interrupt, Names, Indicator, Listing, Value, Save, Open, request_of}
use Rattle.apl_serve.specs.declared.error.Refusal.{Refusal}
use Rattle.apl_serve.specs.declared.error.Refusal.TheVariants as refusal

either : {A B : Type 0} → (A → ⊥) → (B → ⊥) → A ⊎ B → ⊥
either left right (inl a) = left a
either left right (inr b) = right b

abbrev refused : Refusal → Outcome
refused e = Err e

-- no request is refused for its length

length_other : refusal.Length ≡ refusal.Memory → ⊥
length_other e = cc

length_sought : (found : Option Data) (e : Refusal) → (refusal.Length ≡ e → ⊥) → Answered found e (Err refusal.Length) → ⊥
length_sought None e other answered = either other length_other answered
length_sought (Some tree) e other answered = length_other answered

short : (request : Option Request) (s s' : State) → Does request s (Err refusal.Length) s' → ⊥
short None s s' does = length_none does.0
  where
    length_none : refused refusal.Length ≡ refused refusal.Request → ⊥
    length_none e = cc
short (Some (Line line)) s s' does = does.2
short (Some (Advance count)) s s' does = does
short (Some Interrupt) s s' does = does
short (Some (Open tree)) s s' does = does.2
short (Some Names) s s' does = length_other does.0
short (Some Indicator) s s' does = length_other does.0
short (Some (Listing name)) s s' does = length_sought (listing_answer s name) refusal.Function length_function does.0
  where
    length_function : refusal.Length ≡ refusal.Function → ⊥
    length_function e = cc
short (Some (Value name)) s s' does = length_sought (value_answer s name) refusal.Value length_value does.0
  where
    length_value : refusal.Length ≡ refusal.Value → ⊥
    length_value e = cc
short (Some Save) s s' does = does.0

-- and none as no JSON

json_other : refusal.Json ≡ refusal.Memory → ⊥
json_other e = cc

json_sought : (found : Option Data) (e : Refusal) → (refusal.Json ≡ e → ⊥) → Answered found e (Err refusal.Json) → ⊥
json_sought None e other answered = either other json_other answered
json_sought (Some tree) e other answered = json_other answered

readable : (request : Option Request) (s s' : State) → Does request s (Err refusal.Json) s' → ⊥
readable None s s' does = json_none does.0
  where
    json_none : refused refusal.Json ≡ refused refusal.Request → ⊥
    json_none e = cc
readable (Some (Line line)) s s' does = does.2
readable (Some (Advance count)) s s' does = does
readable (Some Interrupt) s s' does = does
readable (Some (Open tree)) s s' does = does.2
readable (Some Names) s s' does = json_other does.0
readable (Some Indicator) s s' does = json_other does.0
readable (Some (Listing name)) s s' does = json_sought (listing_answer s name) refusal.Function json_function does.0
  where
    json_function : refusal.Json ≡ refusal.Function → ⊥
    json_function e = cc
readable (Some (Value name)) s s' does = json_sought (value_answer s name) refusal.Value json_value does.0
  where
    json_value : refusal.Json ≡ refusal.Value → ⊥
    json_value e = cc
readable (Some Save) s s' does = does.0

pub bytes_done : (outcome : Outcome) (request : List ℕ) (tree : Data) (s s' : State) → length request ≤ most → IsJson request tree
    → Does (request_of tree) s outcome s' → DoesBytes request s outcome s'
bytes_done (Ok text) request tree s s' few json does = (few, (tree, json, does))
bytes_done (Err refusal.Length) request tree s s' few json does = absurd (short (request_of tree) s s' does)
bytes_done (Err refusal.Json) request tree s s' few json does = absurd (readable (request_of tree) s s' does)
bytes_done (Err refusal.Memory) request tree s s' few json does = inr (few, (tree, json, does))
bytes_done (Err refusal.Request) request tree s s' few json does = (few, (tree, json, does))
bytes_done (Err refusal.Line) request tree s s' few json does = (few, (tree, json, does))
bytes_done (Err refusal.Running) request tree s s' few json does = (few, (tree, json, does))
bytes_done (Err refusal.Function) request tree s s' few json does = (few, (tree, json, does))
bytes_done (Err refusal.Value) request tree s s' few json does = (few, (tree, json, does))
bytes_done (Err refusal.Answer) request tree s s' few json does = (few, (tree, json, does))
bytes_done (Err (refusal.Load e)) request tree s s' few json does = (few, (tree, json, does))
