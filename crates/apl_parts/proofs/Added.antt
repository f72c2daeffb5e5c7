-- Contexts that wait again stand on one another.
use Rattle.std.proofs.Common.{◌≡◌, suc, All, List, [], ◌∷◌, ◌++◌, length, map, reverse, Option, Some, None, refl, sym, ap, subst, ◌∙◌}
use Rattle.std.specs.Prelude.{IfSome}
use Rattle.std.specs.Option.{option_map}
use Rattle.std.proofs.lemmas.List.{map-append, reverse-append}
use Rattle.std.proofs.lemmas.List.Elements.{All-append, All-cons, All-head, All-nil, All-same, All-tail}
use Rattle.apl_defn.specs.Definitions.{line_of}
use Rattle.apl_names.specs.Maps.{Map, first_map, map_of}
use Rattle.apl_machine_state.specs.Items.{Rest}
use Rattle.apl_machine_state.specs.Environment as model
use Rattle.apl_frames.specs.declared.frame.Stage.TheVariants.{Pendent}
use Rattle.apl_frames.specs.Flat.{Flat, flat_rest}
use Rattle.apl_contexts.specs.Callers.{Caller}
use Rattle.apl_contexts.specs.declared.context.Context.{Context}
use Rattle.apl_contexts.specs.declared.context.Context.TheVariants as flat
use Rattle.apl_contexts.specs.declared.context.Statement.{Statement as FlatStatement}
use Rattle.apl_contexts.specs.Contexts.{AreStacked, FitsRest, Place, Newest, Beneath, Idle, calls, dressed, rest_in, under, place_under as under_flat}
use Rattle.apl_parts.specs.declared.parts.ContextPart.{ContextPart}
use Rattle.apl_parts.specs.declared.parts.ContextPart.TheVariants as parts
use Rattle.apl_parts.specs.declared.parts.StatementPart.{StatementPart}
use Rattle.apl_parts.specs.Pieces.{Waiting, Standing}
use Rattle.apl_parts.specs.Restored.{AreStanding, FitsWaiting, context_of, names_of, place_under, rest_of, waiting_in}
use Rattle.apl_parts.specs.Making.{HasAdded, Stand}

-- ---- lists

pub map_reverse : {X Y : Type 0} (f : X → Y) (xs : List X) → map f (reverse xs) ≡ reverse (map f xs)
map_reverse f [] = refl
map_reverse f (x ∷ xs) =
    ap (map f) (reverse-append (x ∷ []) xs) ∙ map-append f (reverse xs) (x ∷ []) ∙ ap (λ ys. ys ++ f x ∷ []) (map_reverse f xs) ∙ sym (reverse-append (f x ∷ []) (map f xs))

pub all_reverse : {X : Type 0} (P : X → Type 0) (xs : List X) → All P xs → All P (reverse xs)
all_reverse P [] h = h
all_reverse P (x ∷ xs) h =
    All-same P (reverse (x ∷ xs)) (reverse xs ++ x ∷ []) (reverse-append (x ∷ []) xs)
    (All-append P (reverse xs) (x ∷ []) (all_reverse P xs (All-tail P x xs h)) (All-cons P x [] (All-head P x xs h) (All-nil P)))

-- ---- one more context

stack_on : (p : Place) (c : Context) (cs : List Context) → FitsRest p (rest_in c) → AreStacked (under_flat c) cs → AreStacked p (c ∷ cs)
stack_on Newest c cs a b = (a, b)
stack_on Beneath c cs a b = (a, b)
stack_on Idle c cs a b = (a, b)

fits : (p : Place) (w : Option Waiting) (r : Option Flat) (g : Waiting → Rest) → option_map flat_rest r ≡ option_map g w → IfSome r (λ f. f.stage ≡ Pendent) → FitsWaiting p w → FitsRest p r
fits p None (Some f) g e h x = cc
fits p (Some w) None g e h x = cc
fits Newest None None g e h x = tt
fits Beneath None None g e h x = x
fits Idle None None g e h x = tt
fits Newest (Some w) (Some f) g e h x = absurd x
fits Beneath (Some w) (Some f) g e h x = h
fits Idle (Some w) (Some f) g e h x = absurd x

-- a statement
pub adds_statement : (part : StatementPart) (s : FlatStatement) (ms ns : List Map) (cs ds : List Context) → s.text ≡ part.text → flat_rest s.line ≡ rest_of part.text part.rest → s.line.stage ≡ Pendent
    → ns ≡ ms → ds ≡ flat.Statement s ∷ cs → HasAdded (parts.Statement part) ms cs ns ds
adds_statement part s ms ns cs ds text rest stage e h = record {
  dressed = ap (λ (ks : List Map). dressed ks ds) e ∙ ap (dressed ms) h
      ∙ ap (λ t. model.Statement t (flat_rest s.line) ∷ dressed ms cs) text
      ∙ ap (λ r. model.Statement part.text r ∷ dressed ms cs) rest;
  under = ap (λ (ks : List Map). under ks ds) e ∙ ap (under ms) h;
  as_many = λ many. ap length e ∙ many ∙ sym (ap (λ (ks : List Context). suc (calls ks)) h);
  stacked = λ p fit below. subst (AreStacked p) (sym h) (stack_on p (flat.Statement s) cs (fits p (Some part.rest) (Some s.line) (rest_of part.text) (ap Some rest) stage fit) below);
}

-- a text that is executed
pub adds_execute : (part : StatementPart) (s : FlatStatement) (ms ns : List Map) (cs ds : List Context) → s.text ≡ part.text → flat_rest s.line ≡ rest_of part.text part.rest → s.line.stage ≡ Pendent
    → ns ≡ ms → ds ≡ flat.Execute s ∷ cs → HasAdded (parts.Execute part) ms cs ns ds
adds_execute part s ms ns cs ds text rest stage e h = record {
  dressed = ap (λ (ks : List Map). dressed ks ds) e ∙ ap (dressed ms) h
      ∙ ap (λ t. model.Execute t (flat_rest s.line) ∷ dressed ms cs) text
      ∙ ap (λ r. model.Execute part.text r ∷ dressed ms cs) rest;
  under = ap (λ (ks : List Map). under ks ds) e ∙ ap (under ms) h;
  as_many = λ many. ap length e ∙ many ∙ sym (ap (λ (ks : List Context). suc (calls ks)) h);
  stacked = λ p fit below. subst (AreStacked p) (sym h) (stack_on p (flat.Execute s) cs (fits p (Some part.rest) (Some s.line) (rest_of part.text) (ap Some rest) stage fit) below);
}

-- a call with its names
pub adds_call : (part : Standing) (k : Caller) (ms ns : List Map) (cs ds : List Context) → k.definition ≡ part.definition → k.at ≡ part.at
    → option_map flat_rest k.rest ≡ option_map (rest_of (line_of part.definition part.at)) part.rest → IfSome k.rest (λ f. f.stage ≡ Pendent)
    → ns ≡ map_of (names_of part) ∷ ms → ds ≡ flat.Call k ∷ cs → HasAdded (parts.Call part) ms cs ns ds
adds_call part k ms ns cs ds definition at rest stage e h =
    let m : Map = map_of (names_of part) in
    record {
      dressed = ap (λ (ks : List Map). dressed ks ds) e ∙ ap (dressed (m ∷ ms)) h
          ∙ ap (λ d. model.Call d k.at m (option_map flat_rest k.rest) ∷ dressed ms cs) definition
          ∙ ap (λ n. model.Call part.definition n m (option_map flat_rest k.rest) ∷ dressed ms cs) at
          ∙ ap (λ r. model.Call part.definition part.at m r ∷ dressed ms cs) rest;
      under = ap (λ (ks : List Map). under ks ds) e ∙ ap (under (m ∷ ms)) h;
      as_many = λ many. ap length e ∙ ap suc many ∙ sym (ap (λ (ks : List Context). suc (calls ks)) h);
      stacked = λ p fit below. subst (AreStacked p) (sym h) (stack_on p (flat.Call k) cs (fits p part.rest k.rest (rest_of (line_of part.definition part.at)) rest stage fit) below);
    }

-- ---- all of them

stands_first : (p : Place) (c : ContextPart) (cs : List ContextPart) → AreStanding p (c ∷ cs) → FitsWaiting p (waiting_in c) × AreStanding (place_under c) cs
stands_first Newest c cs h = h
stands_first Beneath c cs h = h
stands_first Idle c cs h = h

pub stand_more : (part : ContextPart) (done : List ContextPart) (global : Map) (ms ns : List Map) (cs ds : List Context) → Stand done global ms cs → HasAdded part ms cs ns ds → Stand (part ∷ done) global ns ds
stand_more part done global ms ns cs ds s h = record {
  dressed = h.dressed ∙ ap (λ ks. context_of part ∷ ks) s.dressed;
  under = h.under ∙ s.under;
  as_many = h.as_many s.as_many;
  stacked = λ p t. let both = stands_first p part done t in h.stacked p both.0 (s.stacked (place_under part) both.1);
}

none_stacked : (p : Place) → AreStanding p [] → AreStacked p []
none_stacked Newest h = tt
none_stacked Beneath h = h
none_stacked Idle h = tt

pub stand_none : (ms : List Map) (cs : List Context) → ms ≡ first_map ms ∷ [] → cs ≡ [] → Stand [] (first_map ms) ms cs
stand_none ms cs e h = subst (Stand [] (first_map ms) ms) (sym h) (record {
  dressed = refl;
  under = refl;
  as_many = ap length e;
  stacked = none_stacked;
})
