-- A call's own ⎕IO, in parts.
use Rattle.std.proofs.Common.{◌≡◌, Bool, true, false, cond, ◌||◌, List, [], ◌∷◌, ◌++◌, map, All, Option, Some, None, refl, sym, ap, subst, ◌∙◌, true≢false}
use Rattle.std.specs.Prelude.{is_some}
use Rattle.std.specs.Str.{bytes_eq}
use Rattle.std.proofs.lemmas.List.Elements.{All-cons, All-nil}
use Rattle.apl_arrays.specs.Cells.{Arr}
use Rattle.apl_defn.specs.Definitions.{Text, Definition}
use Rattle.apl_names.specs.declared.binding.Binding.{Binding}
use Rattle.apl_names.specs.declared.binding.Binding.TheVariants.{Unset, Label, Value, Function}
use Rattle.apl_names.specs.Maps.{Map, said, value_in}
use Rattle.apl_names.specs.Slots.{has}
use Rattle.apl_names.proofs.Texts.{flip, itself}
use Rattle.apl_machine_state.specs.Environment.{origin_name}
use Rattle.apl_machine_state.specs.Calls.{bound_to, label_of}
use Rattle.apl_order.specs.Kept.{IsCallMap, names_by, names_in}
use Rattle.apl_order.proofs.Maps.{said-listed}
use Rattle.apl_parts.specs.Taken.{values_in}
use Rattle.apl_saved.specs.Rules.{IsLocal, IsOrigin}
use Rattle.apl_savable.specs.Savable.{IsOriginBy}

pub values-names : (m : Map) (ns : List Text) → map (λ (l : Text × Option Arr). l.0) (values_in m ns) ≡ ns
values-names m [] = refl
values-names m (n ∷ ns) = ap (λ (l : List Text). n ∷ l) (values-names m ns)

-- a call's map has each name of the header
some-listed : (m : Map) (ns : List Text) (ls : List (Text × Binding)) (q : Text) → has ns q ≡ true → is_some (said (map (λ name. (name, bound_to (value_in (said m name)))) ns ++ ls) q) ≡ true
some-listed m [] ls q h = absurd (true≢false (sym h))
some-listed m (n ∷ ns) ls q h = by (bytes_eq q n) (bytes_eq n q) (flip n q) h (some-listed m ns ls q)
  where
    by : (b c : Bool) → c ≡ b → (c || has ns q) ≡ true → (has ns q ≡ true → is_some (said (map (λ name. (name, bound_to (value_in (said m name)))) ns ++ ls) q) ≡ true)
        → is_some (cond b (Some (bound_to (value_in (said m n)))) (said (map (λ name. (name, bound_to (value_in (said m name)))) ns ++ ls) q)) ≡ true
    by true c e k f = refl
    by false true e k f = absurd (true≢false e)
    by false false e k f = f k

some-said : (d : Definition) (m : Map) (q : Text) → IsCallMap d m → has (names_in d.header) q ≡ true → is_some (said m q) ≡ true
some-said d m q h k = ap (λ (n : Map). is_some (said n q)) (sym h) ∙ ap is_some (said-listed (names_by m d) q) ∙ some-listed m (names_in d.header) (map label_of d.labels) q k

origin-value : (o : Option Binding) → is_some o ≡ true → IsOriginBy o → IsOrigin (value_in o)
origin-value None e h = absurd (true≢false (sym e))
origin-value (Some (Value a)) e h = h
origin-value (Some Unset) e h = absurd h
origin-value (Some (Label n)) e h = absurd h
origin-value (Some (Function d)) e h = absurd h

has-first : (n : Text) (ns : List Text) → has (n ∷ ns) n ≡ true
has-first n ns = ap (λ b. b || has ns n) (itself n)

has-later : (n : Text) (ns : List Text) (q : Text) → has ns q ≡ true → has (n ∷ ns) q ≡ true
has-later n ns q h = by (bytes_eq n q)
  where
    by : (b : Bool) → (b || has ns q) ≡ true
    by true = refl
    by false = h

each-local : (m : Map) (ns : List Text) → ((q : Text) → has ns q ≡ true → is_some (said m q) ≡ true) → IsOriginBy (said m origin_name) → All IsLocal (values_in m ns)
each-local m [] f h = All-nil IsLocal
each-local m (n ∷ ns) f h =
    All-cons IsLocal (n, value_in (said m n)) (values_in m ns)
    (λ e. subst (λ (k : Text). IsOrigin (value_in (said m k))) (sym e) (origin-value (said m origin_name) (ap (λ (k : Text). is_some (said m k)) (sym e) ∙ f n (has-first n ns)) h))
    (each-local m ns (λ q k. f q (has-later n ns q k)) h)

pub all-local : (d : Definition) (m : Map) → IsCallMap d m → IsOriginBy (said m origin_name) → All IsLocal (values_in m (names_in d.header))
all-local d m c h = each-local m (names_in d.header) (λ q k. some-said d m q c k) h
