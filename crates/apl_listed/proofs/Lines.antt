-- The lines of a definition, and their listings.
use Rattle.std.proofs.Common.{◌≡◌, ℕ, ◌+◌, ◌-◌, ◌<◌, List, [], ◌∷◌, ◌++◌, length, map, take, get_or, Ok, refl, sym, ap, subst, ◌∙◌, arith}
use Rattle.std.specs.Prelude.{slice_get, unwrap_or}
use Rattle.std.specs.List.{AllZip, flat_map}
use Rattle.std.proofs.lemmas.List.{map-append, take_more}
use Rattle.std.proofs.lemmas.List.Elements.{AllZip-push}
use Rattle.std.proofs.lemmas.Option.{unwrap_or-slice_get}
use Rattle.apl_tokens.specs.declared.token.Token.{Token}
use Rattle.apl_tokens.specs.Tokens.{tokens_of}
use Rattle.apl_translate.specs.Binding.{name_in, names_of, without_label}
use Rattle.apl_defn.specs.Definitions.{Text, Definition, line_of}
use Rattle.apl_machine_state.specs.State.{State}
use Rattle.apl_listed.specs.Listings.{IsListing, Lists, bound_now}

pub names_are : (ts : List Token) → flat_map (λ (t : Token). name_in t.kind) (without_label ts) ≡ names_of ts
unfolding names_of
names_are ts = refl

line_is : (d : Definition) (i : ℕ) → line_of d (i + 1) ≡ get_or d.lines i []
line_is d i =
    let same : i + 1 - 1 ≡ i = omega arith in
    ap (λ (k : ℕ). unwrap_or (slice_get d.lines k) []) same ∙ unwrap_or-slice_get d.lines i []

-- the listing of one line more
pub one_more : {V : Type 0} (items : V → List ℕ) (s : State) (d : Definition) (found : List V) (i : ℕ) (v : V) (tokens : List Token) → i < length d.lines → AllZip (Lists s) (take i d.lines) (map items found) → tokens_of (line_of d (i + 1)) ≡ Ok tokens → IsListing (bound_now s tokens) (items v) → AllZip (Lists s) (take (i + 1) d.lines) (map items (found ++ v ∷ []))
one_more items s d found i v tokens below all read listing =
    let line : Lists s (get_or d.lines i []) (items v) = record { tokens = tokens; read = ap tokens_of (sym (line_is d i)) ∙ read; listing = listing } in
    let more = AllZip-push (Lists s) (take i d.lines) (map items found) (get_or d.lines i []) (items v) all line in
    subst (λ (ts : List Text). AllZip (Lists s) ts (map items (found ++ v ∷ []))) (sym (take_more d.lines i [] below))
    (subst (λ (bs : List (List ℕ)). AllZip (Lists s) (take i d.lines ++ get_or d.lines i [] ∷ []) bs) (sym (map-append items found (v ∷ []))) more)
