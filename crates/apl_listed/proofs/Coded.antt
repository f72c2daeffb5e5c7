-- A function has one list of listings.
use Rattle.std.proofs.Common.{◌≡◌, ℕ, false, List, [], ◌∷◌, Option, Some, None, refl, sym, ap, subst, ◌∙◌}
use Rattle.std.specs.List.{AllZip}
use Rattle.apl_listing.specs.Listing.{listed}
use Rattle.apl_translate.specs.Lines.{Line}
use Rattle.apl_translate.proofs.OneCode.{one_code}
use Rattle.apl_defn.specs.Definitions.{Text, Definition}
use Rattle.apl_machine_state.specs.State.{State}
use Rattle.apl_listed.specs.Listings.{AreListings, IsListing, Lists, bound_now}

one_listing : (line : Line) (some others : List ℕ) → IsListing line some → IsListing line others → some ≡ others
one_listing line some others x y = x.lists ∙ (ap (listed 0) (one_code x.code y.code false line.items x.translates y.translates) ∙ sym y.lists)

one_line : (s : State) (text : Text) (some others : List ℕ) → Lists s text some → Lists s text others → some ≡ others
one_line s text some others x y =
    let same : x.tokens ≡ y.tokens = cc (x.read, y.read) in
    one_listing (bound_now s y.tokens) some others (subst (λ ts. IsListing (bound_now s ts) some) same x.listing) y.listing

one_each : (s : State) (lines : List Text) (some others : List (List ℕ)) → AllZip (Lists s) lines some → AllZip (Lists s) lines others → some ≡ others
one_each s [] [] [] x y = refl
one_each s [] [] (b ∷ bs) x y = absurd y
one_each s [] (a ∷ us) bs x y = absurd x
one_each s (t ∷ ts) [] bs x y = absurd x
one_each s (t ∷ ts) (a ∷ us) [] x y = absurd y
one_each s (t ∷ ts) (a ∷ us) (b ∷ bs) x y =
    let first : a ≡ b = one_line s t a b x.0 y.0 in
    let rest : us ≡ bs = one_each s ts us bs x.1 y.1 in
    λ k. first k ∷ rest k

pub one_list : (s : State) (function : Option Definition) (some others : Option (List (List ℕ))) → AreListings s function some → AreListings s function others → some ≡ others
one_list s None None None x y = refl
one_list s None None (Some b) x y = absurd y
one_list s None (Some a) b x y = absurd x
one_list s (Some d) None b x y = absurd x
one_list s (Some d) (Some a) None x y = absurd y
one_list s (Some d) (Some a) (Some b) x y = ap Some (one_each s d.lines a b x y)
