-- The trees of answers have no floats.
use Rattle.std.proofs.Common.{◌≡◌, ℕ, ℤ, pos, negsuc, List, [], ◌∷◌, map, Bool, true, false, ◌||◌, Option, Some, None, refl}
use Rattle.std.specs.Prelude.{codes}
use Rattle.std.specs.declared.cmp.Ordering.{Ordering}
use Rattle.std.specs.declared.cmp.Ordering.TheVariants.{Less, Equal, Greater}
use Rattle.std.specs.Ordering.{match_ordering, nat_cmp}
use Rattle.std.specs.Cmp.Lexicographic.{slice_cmp}
use Rattle.serde_json.specs.Data.{Data, Members, boolean, member, no_members, put}
use Rattle.serde_json.specs.View.{items_of}
use Rattle.serde_json.specs.Written.{has_float, items_have_float, members_have_float}
use Rattle.apl_faults.specs.Report.{number_of}
use Rattle.apl_arrays.specs.Cells.{Arr, Items, Numbers, Characters}
use Rattle.apl_kept.specs.declared.names.Reading.{Reading}
use Rattle.apl_kept.specs.declared.names.Reading.TheVariants as reading
use Rattle.apl_machine_state.specs.declared.output.OutLine.{OutLine}
use Rattle.apl_kept.specs.declared.indicator.StandingCall.{StandingCall}
use Rattle.apl_kept.specs.declared.standing.Place.{Place}
use Rattle.apl_kept.specs.declared.standing.Place.TheVariants.{Typed, Call}
use Rattle.apl_kept.specs.Standing.{place_of, told_of}
use Rattle.apl_kept.specs.declared.standing.Told.{Told}
use Rattle.apl_kept.specs.declared.standing.Told.TheVariants.{Running, Stopped, Fault, Idle}
use Rattle.apl_machine_state.specs.State.{State}
use Rattle.apl_workspace_file.specs.Trees.{list_tree, number_tree, whole_tree}
use Rattle.apl_serve.specs.Trees.{array_tree, call_tree, items_tree, line_tree, named_tree, place_tree, standing_members, text_tree, told_tree, with_column, with_fault, with_place, with_steps}

items_plain : {A : Type 0} (f : A → Data) → ((x : A) → has_float (f x) ≡ false) → (xs : List A) → items_have_float (items_of (map f xs)) ≡ false
items_plain f each [] = refl
items_plain f each (x ∷ xs) = rw (each x) (items_plain f each xs)

pub list_plain : {A : Type 0} (f : A → Data) → ((x : A) → has_float (f x) ≡ false) → (xs : List A) → has_float (list_tree f xs) ≡ false
list_plain f each xs = items_plain f each xs

number_plain : (z : ℤ) → has_float (number_tree z) ≡ false
number_plain (pos n) = refl
number_plain (negsuc n) = refl

whole_plain : (n : ℕ) → has_float (whole_tree n) ≡ false
whole_plain n = refl

array_plain_at : (shape : List ℕ) (items : Items) → has_float (items_tree shape items) ≡ false
array_plain_at shape (Numbers zs) = rw (list_plain number_tree number_plain zs, list_plain whole_tree whole_plain shape) refl
array_plain_at shape (Characters cs) = rw (list_plain whole_tree whole_plain shape) refl

pub array_plain : (a : Arr) → has_float (array_tree a) ≡ false
array_plain a = array_plain_at a.shape a.items

lines_plain : (lines : List OutLine) → has_float (list_tree line_tree lines) ≡ false
lines_plain lines = list_plain line_tree (λ line. refl) lines

pub named_plain : (name : List ℕ) (r : Reading) → has_float (named_tree (record { name = name; reading = r })) ≡ false
named_plain name (reading.Function header) = refl
named_plain name (reading.Numbers shape) = rw (list_plain whole_tree whole_plain shape) refl
named_plain name (reading.Characters shape) = rw (list_plain whole_tree whole_plain shape) refl
named_plain name reading.Unset = refl

both : (a b : Bool) → a ≡ false → b ≡ false → a || b ≡ false
both false b p q = q
both true b p q = cc

of_first : (a b : Bool) → a || b ≡ false → a ≡ false
of_first false b h = refl
of_first true b h = cc

of_rest : (a b : Bool) → a || b ≡ false → b ≡ false
of_rest false b h = h
of_rest true b h = cc

-- a member that is put among others
put_plain : (k : List ℕ) (d : Data) (ms : Members) → has_float d ≡ false → members_have_float ms ≡ false → members_have_float (put k d ms) ≡ false
put_plain k d no_members p q = both (has_float d) false p refl
put_plain k d (member l e ms) p q =
    let rest = of_rest (has_float e) (members_have_float ms) q in
    by rest (put_plain k d ms p rest) (slice_cmp nat_cmp k l)
  where
    by : members_have_float ms ≡ false → members_have_float (put k d ms) ≡ false → (o : Ordering) → members_have_float (match_ordering o (member k d (member l e ms)) (member l d ms) (member l e (put k d ms))) ≡ false
    by rest later Less = both (has_float d) (members_have_float (member l e ms)) p q
    by rest later Equal = both (has_float d) (members_have_float ms) p rest
    by rest later Greater = both (has_float e) (members_have_float (put k d ms)) (of_first (has_float e) (members_have_float ms) q) later

column_plain : (column : Option ℕ) (ms : Members) → members_have_float ms ≡ false → members_have_float (with_column column ms) ≡ false
column_plain None ms h = h
column_plain (Some at) ms h = put_plain (codes "column") (whole_tree at) ms refl h

place_plain : (place : Place) → has_float (place_tree place) ≡ false
place_plain (Typed at) = refl
place_plain (Call name line column) = column_plain column (member (codes "line") (whole_tree line) (member (codes "name") (text_tree name) no_members)) refl

with_place_plain : (place : Option Place) (ms : Members) → members_have_float ms ≡ false → members_have_float (with_place place ms) ≡ false
with_place_plain None ms h = h
with_place_plain (Some place) ms h = put_plain (codes "place") (place_tree place) ms (place_plain place) h

steps_plain : (steps : Option ℕ) (ms : Members) → members_have_float ms ≡ false → members_have_float (with_steps steps ms) ≡ false
steps_plain None ms h = h
steps_plain (Some n) ms h = put_plain (codes "steps") (whole_tree n) ms refl h

fault_plain : (told : Told) (ms : Members) → members_have_float ms ≡ false → members_have_float (with_fault told ms) ≡ false
fault_plain Running ms h = h
fault_plain Stopped ms h = h
fault_plain (Fault fault) ms h = put_plain (codes "fault") (whole_tree (number_of fault)) ms refl h
fault_plain Idle ms h = h

standing_plain : (s : State) (told : Told) → members_have_float (standing_members s told) ≡ false
standing_plain s told = both (has_float (list_tree line_tree s.output)) false (lines_plain s.output) refl

pub told_plain : (steps : Option ℕ) (s : State) → has_float (told_tree steps s) ≡ false
told_plain steps s =
    let standing = standing_members s (told_of s) in
    let faulty = with_fault (told_of s) standing in
    steps_plain steps (with_place (place_of s) faulty) (with_place_plain (place_of s) faulty (fault_plain (told_of s) standing (standing_plain s (told_of s))))

pub call_plain : (call : StandingCall) → has_float (call_tree call) ≡ false
call_plain call =
    let name = member (codes "name") (text_tree call.name) (member (codes "suspended") (boolean call.suspended) (member (codes "text") (text_tree call.text) no_members)) in
    column_plain call.column (member (codes "line") (whole_tree call.line) (member (codes "locals") (list_tree named_tree call.locals) name))
    (both (has_float (list_tree named_tree call.locals)) false (list_plain named_tree (λ n. named_plain n.name n.reading) call.locals) refl)
