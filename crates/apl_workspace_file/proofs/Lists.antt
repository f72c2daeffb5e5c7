-- The items of a list, read or written one after the other.
use Rattle.std.proofs.Common.{◌≡◌, ℕ, ◌≤◌, List, [], ◌∷◌, ◌++◌, length, take, map, Result, Ok, Err, refl, sym, ap, ◌∙◌, append_assoc}
use Rattle.std.proofs.lemmas.List.{append-nil, take_all}
use Rattle.std.specs.Global.{Vec}
use Rattle.serde_json.specs.Data.{Data, array}
use Rattle.serde_json.specs.View.{view, items_of, items_view}
use Rattle.serde_json.specs.declared.value.Value.{Value, Array}
use Rattle.serde_json.proofs.Views.{view-Array}
use Rattle.apl_workspace_file.specs.Trees.{list_tree}
use Rattle.apl_workspace_file.specs.declared.error.TreeError.{TreeError}
use Rattle.apl_workspace_file.specs.declared.error.TreeError.TheVariants.{Memory}
use Rattle.apl_workspace_file.specs.Reading.{◌>>=◌, read_items}

-- what was read before, and what is still read
abbrev pub with_front : {A : Type 0} → List A → Result (List A) TreeError → Result (List A) TreeError
with_front prefix read = read >>= λ xs. Ok (prefix ++ xs)

regroup : {A : Type 0} (prefix : List A) (x : A) (read : Result (List A) TreeError) → with_front prefix (read >>= λ xs. Ok (x ∷ xs)) ≡ with_front (prefix ++ x ∷ []) read
regroup prefix x (Ok xs) = ap Ok (simp append_assoc)
regroup prefix x (Err e) = refl

pub goes_on : {A : Type 0} (f : Data → Result A TreeError) (prefix : List A) (old new : List Value) (v : Value) (x : A) (total : Result (List A) TreeError) → old ≡ v ∷ new
    → f (view v) ≡ Ok x → with_front prefix (read_items f (items_view old)) ≡ total
    → with_front (prefix ++ x ∷ []) (read_items f (items_view new)) ≡ total
goes_on f prefix old new v x total is h so_far =
    let one : with_front prefix (read_items f (items_view old)) ≡ with_front (prefix ++ x ∷ []) (read_items f (items_view new)) =
    rw (is, h) (regroup prefix x (read_items f (items_view new))) in
    sym one ∙ so_far

pub ends : {A : Type 0} (f : Data → Result A TreeError) (prefix : List A) (old new : List Value) (v : Value) (e : TreeError) (total : Result (List A) TreeError) → old ≡ v ∷ new
    → (¬ (e ≡ Memory) → f (view v) ≡ Err e) → with_front prefix (read_items f (items_view old)) ≡ total
    → ¬ (e ≡ Memory) → total ≡ Err e
ends f prefix old new v e total is h so_far other =
    let one : with_front prefix (read_items f (items_view old)) ≡ Err e = rw (is, h other) refl in
    sym so_far ∙ one

pub is_done : {A : Type 0} (f : Data → Result A TreeError) (prefix : List A) (old : List Value) (total : Result (List A) TreeError) → length old ≡ 0
    → with_front prefix (read_items f (items_view old)) ≡ total → total ≡ Ok prefix
is_done f prefix [] total none so_far = sym so_far ∙ ap Ok (append-nil prefix)
is_done f prefix (v ∷ vs) total none so_far = absurd cc

-- what a loop over all items has made
pub list_value : {A : Type 0} (f : A → Data) (made : Vec Value) (xs : List A) (i : ℕ) → length xs ≤ i → map view made.items ≡ map f (take i xs) → view (Array made) ≡ list_tree f xs
list_value f made xs i le so_far =
    let whole : map view made.items ≡ map f xs = so_far ∙ ap (map f) (take_all i xs le) in
    view-Array made ∙ ap (λ (ds : List Data). array (items_of ds)) whole
