-- What is seen of standing calls.
use Rattle.std.proofs.Common.{◌≡◌, ℕ, suc, ◌≤◌, ◌<◌, true, false, List, [], ◌∷◌, drop, length, map, Option, Some, None, refl, sym, ap, ◌∙◌, arith, subst, Bor}
use Rattle.std.specs.Prelude.{reverse, slice_get, is_some, option_copied}
use Rattle.std.specs.Option.{option_map}
use Rattle.std.proofs.lemmas.Option.{slice_get-map}
use Rattle.apl_arrays.specs.Cells.{Arr}
use Rattle.apl_names.specs.Maps.{Map, Text, first_map, said, value_in}
use Rattle.apl_translate.specs.declared.form.Form.{Form}
use Rattle.apl_translate.specs.declared.form.Form.TheVariants as forms
use Rattle.apl_translate.specs.declared.form.Placed.{Placed}
use Rattle.apl_translate.specs.Forms.{forms_after}
use Rattle.apl_machine_state.specs.declared.operand.Operand.{Operand}
use Rattle.apl_machine_state.specs.Items.{Content, Constant, Given, Reads, Awaited, Item, awaited_at}
use Rattle.apl_machine_state.specs.Environment as model
use Rattle.apl_machine_state.specs.State.{State}
use Rattle.apl_frames.specs.declared.frame.Stage.{Stage}
use Rattle.apl_frames.specs.declared.frame.Stage.TheVariants.{Ready, Emptied}
use Rattle.apl_frames.specs.Flat.{Flat, content_at, filled, flat_rest, items_at, stack_after}
use Rattle.apl_contexts.specs.Callers.{Caller}
use Rattle.apl_contexts.specs.declared.context.Context.{Context}
use Rattle.apl_contexts.specs.declared.context.Context.TheVariants.{Statement, Call, Execute}
use Rattle.apl_contexts.specs.Contexts.{beneath, call_in, dressed, newest_of}
use Rattle.apl_machine.specs.Spaces.{Space, IsSound, state_of}
use Rattle.apl_machine.specs.Standing.{Seen, calls_in, hole_among, hole_in, seen_call}
use Rattle.apl_machine.specs.inside.Callers.{callers_in}
use Rattle.apl_machine.proofs.Environments.{env_is}

-- ---- the hole of a line

-- it is where there is one
found_by : (content : Content) (at : ℕ) (items : List Item) → (1 ≤ awaited_at items → hole_among items ≡ Some (awaited_at items))
    → 1 ≤ awaited_at (record { content = content; at = at } ∷ items) → hole_among (record { content = content; at = at } ∷ items) ≡ Some (awaited_at (record { content = content; at = at } ∷ items))
found_by (Constant a) at items later h = later h
found_by (Given o) at items later h = later h
found_by (Reads w) at items later h = later h
found_by Awaited at items later h = refl

found : (items : List Item) → 1 ≤ awaited_at items → hole_among items ≡ Some (awaited_at items)
found [] h = absurd (omega arith)
found (item ∷ items) h = found_by item.content item.at items (found items) h

-- what is ready has none
none_by : (constants : List Arr) (form : Form) (at : ℕ) (stack : List Operand) (items : List Item) → hole_among items ≡ None
    → hole_among (record { content = content_at constants form stack; at = at } ∷ items) ≡ None
none_by constants (forms.Constant k) at stack items h = h
none_by constants forms.Given at stack items h = h
none_by constants forms.Slots at stack items h = h
none_by constants (forms.Word w) at stack items h = h

none : (constants : List Arr) (ps : List Placed) (stack : List Operand) → hole_among (filled constants ps stack) ≡ None
none constants [] stack = refl
none constants (p ∷ ps) stack = none_by constants p.form p.at stack (filled constants ps (stack_after p.form stack)) (none constants ps (stack_after p.form stack))

stands_so : (f : Flat) (stage : Stage) → f.stage ≡ stage → hole_in (Some (flat_rest f)) ≡ hole_among (items_at stage f.bound.constants (forms_after f.done f.bound.items) (reverse f.operands))
stands_so f stage e = ap (λ (g : Stage). hole_among (items_at g f.bound.constants (forms_after f.done f.bound.items) (reverse f.operands))) e

pub hole_found : (f : Flat) (at : ℕ) → 1 ≤ at → at ≡ awaited_at (flat_rest f).items → Some at ≡ hole_in (Some (flat_rest f))
hole_found f at some e = ap Some e ∙ sym (found (flat_rest f).items (subst (λ (n : ℕ). 1 ≤ n) e some))

pub hole_ready : (f : Flat) → f.stage ≡ Ready → None ≡ hole_in (Some (flat_rest f))
hole_ready f e = sym (stands_so f Ready e ∙ none f.bound.constants (forms_after f.done f.bound.items) (reverse f.operands))

pub hole_emptied : (f : Flat) → f.stage ≡ Emptied → None ≡ hole_in (Some (flat_rest f))
hole_emptied f e = sym (stands_so f Emptied e)

-- ---- the standing calls

abbrev pub seen_caller : Caller → Seen
seen_caller c = seen_call c.definition c.at (option_map flat_rest c.rest)

calls_are : (ms : List Map) (cs : List Context) → calls_in (dressed ms cs) ≡ map seen_caller (callers_in cs)
calls_are ms [] = refl
calls_are ms (Statement s ∷ cs) = calls_are ms cs
calls_are ms (Call c ∷ cs) = ap (λ (seen : List Seen). seen_caller c ∷ seen) (calls_are (drop 1 ms) cs)
calls_are ms (Execute s ∷ cs) = calls_are ms cs

pub call_read : (s : Space) (t : State) (k : ℕ) → state_of s ≡ t → option_map seen_caller (slice_get (callers_in s.contexts) k) ≡ slice_get (calls_in t.contexts) k
call_read s t k e =
    sym (slice_get-map seen_caller (callers_in s.contexts) k)
    ∙ ap (λ (seen : List Seen). slice_get seen k) (sym (calls_are s.maps s.contexts))
    ∙ ap (λ (u : State). slice_get (calls_in u.contexts) k) e

-- the nearest statement or call, and those beneath it
pub call_there : (cs : List Context) (c : Caller) → call_in cs ≡ Some c → callers_in cs ≡ c ∷ callers_in (beneath cs)
call_there [] c h = cc
call_there (Statement s ∷ cs) c h = cc
call_there (Call d ∷ cs) c h = let e : d ≡ c = cc in ap (λ (x : Caller). x ∷ callers_in cs) e
call_there (Execute s ∷ cs) c h = call_there cs c h

pub no_call : (cs : List Context) → call_in cs ≡ None → callers_in cs ≡ callers_in (beneath cs)
no_call [] h = refl
no_call (Statement s ∷ cs) h = refl
no_call (Call d ∷ cs) h = cc
no_call (Execute s ∷ cs) h = no_call cs h

not_longer : (cs : List Context) → length (beneath cs) ≤ length cs
not_longer [] = omega arith
not_longer (Statement s ∷ cs) = omega arith
not_longer (Call c ∷ cs) = omega arith
not_longer (Execute s ∷ cs) = let h = not_longer cs in omega arith

pub shorter : (cs : List Context) → is_some (newest_of cs) ≡ true → length (beneath cs) < length cs
shorter [] h = cc
shorter (Statement s ∷ cs) h = omega arith
shorter (Call c ∷ cs) h = omega arith
shorter (Execute s ∷ cs) h = let g = not_longer cs in omega arith

-- some stand where there is a newest one
pub stands : (o : Option (Bor Context)) (cs : List Context) → option_copied o ≡ newest_of cs → is_some o ≡ true → is_some (newest_of cs) ≡ true
stands None cs e h = cc
stands (Some c) cs e h = ap is_some (sym e)

-- the call is passed over, or it is the one
pub passed : (cs : List Context) (c : Caller) (left less : ℕ) → call_in cs ≡ Some c → left ≡ suc less → slice_get (callers_in (beneath cs)) less ≡ slice_get (callers_in cs) left
passed cs c left less is more = sym (ap (λ (calls : List Caller). slice_get calls left) (call_there cs c is) ∙ ap (slice_get (c ∷ callers_in (beneath cs))) more)

pub reached : (cs : List Context) (c : Caller) (left : ℕ) → call_in cs ≡ Some c → left ≡ 0 → Some c ≡ slice_get (callers_in cs) left
reached cs c left is last = sym (ap (λ (calls : List Caller). slice_get calls left) (call_there cs c is) ∙ ap (slice_get (c ∷ callers_in (beneath cs))) last)

pub no_more : (cs : List Context) (left : ℕ) → is_some (newest_of cs) ≡ false → None ≡ slice_get (callers_in cs) left
no_more [] left h = refl
no_more (Statement s ∷ cs) left h = cc
no_more (Call c ∷ cs) left h = cc
no_more (Execute s ∷ cs) left h = cc

-- ---- what scopes give names

pub scope_read : (s : Space) (t : State) (k : ℕ) (name : Text) → IsSound s → state_of s ≡ t
    → value_in (said (first_map (drop k s.maps)) name) ≡ value_in (said (first_map (drop k (model.environment t.world t.contexts))) name)
scope_read s t k name h e =
    ap (λ (ms : List Map). value_in (said (first_map (drop k ms)) name)) (sym (env_is s.maps s.kept s.contexts h.contexts.as_many))
    ∙ ap (λ (u : State). value_in (said (first_map (drop k (model.environment u.world u.contexts))) name)) e
