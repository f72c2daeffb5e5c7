-- What is loaded can be saved.
use Rattle.std.proofs.Common.{◌≡◌, ℕ, ◌+◌, ◌<◌, ◌≤◌, All, Bool, true, false, cond, List, [], ◌∷◌, ◌++◌, length, map, reverse, Option, Some, None, refl, sym, ap, subst, ◌∙◌, arith, append_assoc}
use Rattle.std.specs.Option.{option_map}
use Rattle.std.specs.List.{AllByRecursion}
use Rattle.std.specs.Str.{bytes_eq}
use Rattle.std.proofs.lemmas.List.{append-nil, reverse-append, reverse-reverse}
use Rattle.std.proofs.lemmas.List.Elements.{All-cons, All-from_recursion, All-head, All-nil, All-tail}
use Rattle.apl_arrays.specs.Cells.{Arr}
use Rattle.apl_symbols.specs.declared.primitive.Primitive.TheVariants as primitives
use Rattle.apl_code.specs.declared.instr.Action.{Action}
use Rattle.apl_code.specs.declared.instr.Action.TheVariants.{Phrase}
use Rattle.apl_code.specs.declared.instr.Instr.{Instr}
use Rattle.apl_code.specs.declared.row.Row.TheVariants as rows
use Rattle.apl_code.specs.declared.row.Function.TheVariants as functions
use Rattle.apl_code.specs.declared.row.Variable.TheVariants as variables
use Rattle.apl_tokens.specs.Spelling.{IsName}
use Rattle.apl_defn.specs.Definitions.{Text, line_of}
use Rattle.apl_defn.proofs.Limits.{few_lines}
use Rattle.apl_translate.specs.Binding.{bound_of}
use Rattle.apl_translate.specs.Forms.{forms_after}
use Rattle.apl_translate.specs.Translation.{Translates}
use Rattle.apl_translate.proofs.OneCode.{one_code}
use Rattle.apl_names.specs.declared.binding.Binding.TheVariants.{Value, Function}
use Rattle.apl_names.specs.Maps.{map_of, said}
use Rattle.apl_names.proofs.Texts.{same}
use Rattle.apl_machine_state.specs.Environment as model
use Rattle.apl_machine_state.specs.Environment.{origin_name, scalar}
use Rattle.apl_machine_state.specs.Calls.{bound_to, label_of}
use Rattle.apl_order.specs.Kept.{AreAtMost, Ascend as AscendFrom}
use Rattle.apl_order.proofs.Defined.{labels-said}
use Rattle.apl_order.proofs.Maps.{said-listed}
use Rattle.apl_frames.specs.declared.frame.Stage.TheVariants.{Pendent}
use Rattle.apl_frames.specs.Flat.{HasKinds, pendent_flat, rest_with}
use Rattle.apl_contexts.specs.Contexts.{Newest, Beneath, Idle}
use Rattle.apl_parts.specs.declared.parts.ContextPart.{ContextPart}
use Rattle.apl_parts.specs.declared.parts.ContextPart.TheVariants.{Statement, Call, Execute}
use Rattle.apl_parts.specs.Pieces.{Waiting, Standing, Watched}
use Rattle.apl_parts.specs.Workspaces.{Pieces}
use Rattle.apl_parts.specs.Taken.{part_of}
use Rattle.apl_parts.specs.Restored.{AreFew, AreStanding, AreWhole, FitsWaiting, IsWaiting, IsWaitingIn, IsWatched, context_of, function_entry, globals_of, line_by, names_of, place_under, rest_of, standing_in, state_of, variable_entry, waiting_in}
use Rattle.apl_parts.specs.Restored as restored
use Rattle.apl_parts.proofs.Added.{all_reverse, map_reverse}
use Rattle.apl_parts.proofs.Kept.{whole-kept}
use Rattle.apl_saved.specs.Rules.{AreContexts, AreRuled, Awaits, Calls, Ends, Follows, IsCall, IsContext, IsLocal, IsOrigin, IsPendent, IsPendentIn, IsStatement, StandsOn, counted, text_of, variable_names}
use Rattle.apl_savable.specs.Savable.{AreSavable, HasCalled, HasCalledIn, IsCalledBy, IsNamed, IsOriginBy, IsSavableContext, IsUnderWay, IsUnderWayIn}
use Rattle.apl_savable.specs.Promises.{LoadedIsSavable}
use Rattle.apl_savable.proofs.Fits.{code-few, line-fits}
use Rattle.apl_saved.proofs.StackKinds.{pendent_kinds}

-- ---- lines

pub pending-kinds : (text : Text) (w : Waiting) (h : IsPendent text w) → HasKinds Pendent (forms_after w.done (bound_of h.tokens w.classes).items) (reverse w.operands)
pending-kinds text w h =
    let line = bound_of h.tokens w.classes in
    pendent_kinds h.code line.items w.done w.operands (line-fits text h.tokens w.classes h.read).fresh h.line.translates h.line.runs h.line.kinds

waits : (text : Text) (w : Waiting) → IsPendent text w → IsWaiting text w
waits text w h = record {
  tokens = h.tokens;
  read = h.read;
  runs = λ code t. subst (λ (is : List Instr). w.done < length is) (one_code h.code code false (bound_of h.tokens w.classes).items h.line.translates t) h.line.runs;
  kinds = pending-kinds text w h;
}

waits-in : (text : Text) (o : Option Waiting) → IsPendentIn text o → IsWaitingIn text o
waits-in text None h = tt
waits-in text (Some w) h = waits text w h

unfoldable pub under-way : (text : Text) (w : Waiting) → IsPendent text w → IsUnderWay text (rest_of text w)
under-way text w h =
    let line = bound_of h.tokens w.classes in
    let fits = line-fits text h.tokens w.classes h.read in
    record {
      tokens = h.tokens;
      read = h.read;
      classes = w.classes;
      as_many = h.line.as_many;
      line = pendent_flat line h.code w.done w.operands;
      bound = refl;
      stands = record {
        fresh = fits.fresh;
        known = fits.known;
        placed = fits.there;
        translates = h.line.translates;
        few = code-few h.code line.items line.constants fits h.line.translates;
        runs = h.line.runs;
        kinds = pending-kinds text w h;
      };
      left = h.line.kinds;
      is = ap (λ r. rest_with Pendent (line_by r w.classes) w.done (reverse w.operands)) h.read;
    }

under-way-in : (text : Text) (o : Option Waiting) → IsPendentIn text o → IsUnderWayIn text (option_map (rest_of text) o)
under-way-in text None h = tt
under-way-in text (Some w) h = under-way text w h

-- ---- a call's own ⎕IO

origin-is : (o : Option Arr) → IsOrigin o → IsOriginBy (Some (bound_to o))
origin-is None h = absurd h
origin-is (Some a) h = h

local-origin : (ls : List (Text × Option Arr)) (labels : List (Text × ℕ)) → All IsLocal ls → said (map label_of labels) origin_name ≡ None → IsOriginBy (said (map (λ (l : Text × Option Arr). (l.0, bound_to l.1)) ls ++ map label_of labels) origin_name)
local-origin [] labels h e = subst IsOriginBy (sym e) tt
local-origin (l ∷ ls) labels h e = by (bytes_eq origin_name l.0) refl (local-origin ls labels (All-tail IsLocal l ls h) e)
  where
    by : (b : Bool) → bytes_eq origin_name l.0 ≡ b → IsOriginBy (said (map (λ (l : Text × Option Arr). (l.0, bound_to l.1)) ls ++ map label_of labels) origin_name) → IsOriginBy (cond b (Some (bound_to l.1)) (said (map (λ (l : Text × Option Arr). (l.0, bound_to l.1)) ls ++ map label_of labels) origin_name))
    by true t i = origin-is l.1 (All-head IsLocal l ls h (sym (same origin_name l.0 t)))
    by false t i = i

call-origin : (c : Standing) → IsCall c → IsOriginBy (said (map_of (names_of c)) origin_name)
call-origin c h = subst IsOriginBy (sym (said-listed (names_of c) origin_name)) (local-origin c.locals c.definition.labels h.locals (labels-said c.definition h.defined))

-- ---- one context

whole-context : (c : ContextPart) → IsContext c → restored.IsContext c
whole-context (Statement s) h = waits s.text s.rest h.1
whole-context (Call c) h = (h.at_line, waits-in (line_of c.definition c.at) c.rest h.rest, h.defined, h.names)
whole-context (Execute s) h = waits s.text s.rest h.1

savable-context : (c : ContextPart) → IsContext c → IsSavableContext (context_of c)
savable-context (Statement s) h = (h.0, under-way s.text s.rest h.1)
savable-context (Call c) h = (call-origin c h, under-way-in (line_of c.definition c.at) c.rest h.rest)
savable-context (Execute s) h = (h.0, under-way s.text s.rest h.1)

-- ---- contexts above one another

calls-again : (a : Action) (c : ContextPart) → Calls a c → Calls a (part_of (context_of c))
calls-again (Phrase (rows.Call (variables.Name name))) (Call c) h = h
calls-again (Phrase (rows.Monadic (functions.Name name))) (Call c) h = h
calls-again (Phrase (rows.Dyadic (functions.Name name))) (Call c) h = h
calls-again (Phrase (rows.Monadic (functions.Primitive primitives.Execute))) (Execute s) h = h
calls-again a c h = absurd h

-- no statement is called
calls-place : (a : Action) (c : ContextPart) → Calls a c → place_under c ≡ Beneath
calls-place (Phrase (rows.Call (variables.Name name))) (Call c) h = refl
calls-place (Phrase (rows.Monadic (functions.Name name))) (Call c) h = refl
calls-place (Phrase (rows.Dyadic (functions.Name name))) (Call c) h = refl
calls-place (Phrase (rows.Monadic (functions.Primitive primitives.Execute))) (Execute s) h = refl
calls-place a c h = absurd h

has-called : (text : Text) (w : Waiting) (c : ContextPart) → Awaits text w c → HasCalled (rest_of text w) (context_of c)
has-called text w c h = record {
  code = h.code;
  translates = subst (λ r. Translates h.code false (line_by r w.classes).items) (sym h.read) h.translates;
  last = h.last;
  is_last = h.is_last;
  calls = calls-again h.last.action c h.calls;
}

has-called-in : (text : Text) (o : Option Waiting) (c : ContextPart) → StandsOn text o c → HasCalledIn (option_map (rest_of text) o) (context_of c)
has-called-in text None c h = tt
has-called-in text (Some w) c h = has-called text w c h

called-from : (below c : ContextPart) → StandsOn (text_of below) (waiting_in below) c → HasCalledIn (model.rest_of (context_of below)) (context_of c)
called-from (Statement s) c h = has-called s.text s.rest c h
called-from (Call b) c h = has-called-in (line_of b.definition b.at) b.rest c h
called-from (Execute s) c h = has-called s.text s.rest c h

statement-place : (c : ContextPart) → IsStatement c → place_under c ≡ Idle
statement-place (Statement s) h = refl
statement-place (Call c) h = absurd h
statement-place (Execute s) h = absurd h

fits : (text : Text) (o : Option Waiting) (c : ContextPart) → StandsOn text o c → FitsWaiting (place_under c) o
fits text None c h = subst (λ p. FitsWaiting p None) (sym (statement-place c h)) tt
fits text (Some w) c h = subst (λ p. FitsWaiting p (Some w)) (sym (calls-place h.last.action c h.calls)) tt

-- ---- all of them

newest : List ContextPart → Option ContextPart
newest [] = None
newest (c ∷ cs) = Some c

abbrev StandBelow : List ContextPart → Type 0
StandBelow [] = Unit {0}
StandBelow (c ∷ cs) = AreStanding (place_under c) cs

-- contexts, the newest first, stand so far
record Stand (cs : List ContextPart) : Type 0 where
  few : standing_in cs ≤ 256
  whole : AllByRecursion restored.IsContext cs
  below : StandBelow cs
  savable : AreSavable (map context_of cs)

counted-more : (c : ContextPart) (cs : List ContextPart) → standing_in (c ∷ cs) ≡ standing_in cs + counted c
counted-more (Statement s) cs = omega arith
counted-more (Call c) cs = omega arith
counted-more (Execute s) cs = omega arith

below-first : (c : ContextPart) → IsStatement c → StandBelow (c ∷ [])
below-first (Statement s) h = tt
below-first (Call c) h = absurd h
below-first (Execute s) h = absurd h

below-next : (c d : ContextPart) (ds : List ContextPart) → FitsWaiting (place_under c) (waiting_in d) → AreStanding (place_under d) ds → StandBelow (c ∷ d ∷ ds)
below-next (Statement s) d ds f a = (f, a)
below-next (Call c) d ds f a = (f, a)
below-next (Execute s) d ds f a = (f, a)

below-more : (c : ContextPart) (cs : List ContextPart) → Follows (newest cs) c → StandBelow cs → StandBelow (c ∷ cs)
unfolding newest
below-more c [] h b = below-first c h
below-more c (d ∷ ds) h b = below-next c d ds (fits (text_of d) (waiting_in d) c h) b

called-more : (c : ContextPart) (cs : List ContextPart) → Follows (newest cs) c → IsCalledBy (context_of c) (map context_of cs)
unfolding newest
called-more c [] h = tt
called-more c (d ∷ ds) h = called-from d c h

stand-more : (c : ContextPart) (cs : List ContextPart) → standing_in cs + counted c ≤ 256 → Follows (newest cs) c → IsContext c → Stand cs → Stand (c ∷ cs)
stand-more c cs few f h s = record {
  few = omega (arith, few, counted-more c cs);
  whole = (whole-context c h, s.whole);
  below = below-more c cs f s.below;
  savable = (savable-context c h, called-more c cs f, s.savable);
}

-- the newest is suspended
record Ended (cs : List ContextPart) : Type 0 where
  stand : Stand cs
  ends : Ends (newest cs)

ended : (cs below : List ContextPart) → AreContexts (newest below) (standing_in below) cs → Stand below → Ended (reverse cs ++ below)
unfolding newest
ended [] below h s = record { stand = s; ends = h }
ended (c ∷ cs) below h s =
    let more : AreContexts (Some c) (standing_in (c ∷ below)) cs = subst (λ n. AreContexts (Some c) n cs) (sym (counted-more c below)) h.3 in
    subst Ended (sym (ap (λ l. l ++ below) (reverse-append (c ∷ []) cs) ∙ append_assoc (reverse cs) (c ∷ []) below)) (ended cs (c ∷ below) more (stand-more c below h.0 h.1 h.2 s))

all-ended : (cs : List ContextPart) → AreContexts None 0 cs → Ended (reverse cs)
unfolding newest
all-ended cs h = subst Ended (append-nil (reverse cs)) (ended cs [] h (record { few = omega arith; whole = tt; below = tt; savable = tt }))

newest-fits : (o : Option Waiting) → o ≡ None → FitsWaiting Newest o
newest-fits None e = tt
newest-fits (Some w) e = cc

standing : (cs : List ContextPart) → StandBelow cs → Ends (newest cs) → AreStanding Newest cs
unfolding newest
standing [] b e = tt
standing (c ∷ cs) b e = (newest-fits (waiting_in c) e, b)

-- ---- functions have few lines that stop or are traced

few-between : (low most : ℕ) (ns : List ℕ) → AscendFrom low ns → AreAtMost most ns → low ≤ most → low + length ns ≤ most
few-between low most [] a b le = omega arith
few-between low most (n ∷ ns) a b le = let i = few-between n most ns a.1 b.1 b.0 in let x = a.0 in omega arith

few-watched : (f : Watched) → IsWatched f → AreFew f
few-watched f h =
    let n = few_lines f.definition h.defined in
    let s = few-between 0 (length f.definition.lines) f.stops h.stops.0 h.stops.1 (omega arith) in
    let t = few-between 0 (length f.definition.lines) f.traces h.traces.0 h.traces.1 (omega arith) in
    (omega arith, omega arith)

all-few : (fs : List Watched) → All IsWatched fs → All AreFew fs
all-few [] h = All-nil AreFew
all-few (f ∷ fs) h = All-cons AreFew f fs (few-watched f (All-head IsWatched f fs h)) (all-few fs (All-tail IsWatched f fs h))

-- ---- names of variables

variables-named : (vs : List (Text × Arr)) (q : Text) → All IsName (variable_names vs) → IsNamed q (said (map variable_entry vs) q)
variables-named [] q h = tt
variables-named (v ∷ vs) q h = by (bytes_eq q v.0) refl (variables-named vs q (All-tail IsName v.0 (variable_names vs) h))
  where
    by : (b : Bool) → bytes_eq q v.0 ≡ b → IsNamed q (said (map variable_entry vs) q) → IsNamed q (cond b (Some (Value v.1)) (said (map variable_entry vs) q))
    by true e i = subst IsName (sym (same q v.0 e)) (All-head IsName v.0 (variable_names vs) h)
    by false e i = i

entries-named : (fs : List Watched) (vs : List (Text × Arr)) (q : Text) → All IsName (variable_names vs) → IsNamed q (said (map function_entry fs ++ map variable_entry vs) q)
entries-named [] vs q h = variables-named vs q h
entries-named (f ∷ fs) vs q h = by (bytes_eq q f.definition.header.name) (entries-named fs vs q h)
  where
    by : (b : Bool) → IsNamed q (said (map function_entry fs ++ map variable_entry vs) q) → IsNamed q (cond b (Some (Function f.definition)) (said (map function_entry fs ++ map variable_entry vs) q))
    by true i = tt
    by false i = i

-- ---- the state

all-turned : {X : Type 0} (P : X → Type 0) (xs : List X) → All P (reverse xs) → All P xs
all-turned P xs h = subst (All P) (reverse-reverse xs) (all_reverse P (reverse xs) h)

pub ruled-whole : (p : Pieces) → AreRuled p → AreWhole p
ruled-whole p h =
    let e = all-ended p.contexts h.contexts in
    record {
      origin = h.origin;
      few = all-few p.functions h.functions;
      contexts = all-turned restored.IsContext p.contexts (All-from_recursion restored.IsContext (reverse p.contexts) e.stand.whole);
      standing = standing (reverse p.contexts) e.stand.below e.ends;
      watched = h.functions;
      within = e.stand.few;
    }

pub loaded-savable : LoadedIsSavable
loaded-savable p h = record {
  kept = whole-kept p (ruled-whole p h);
  origin = h.origin;
  named = λ q. subst (IsNamed q) (sym (said-listed (map function_entry p.functions ++ map variable_entry p.variables) q)) (entries-named p.functions p.variables q h.variables);
  contexts = subst AreSavable (map_reverse context_of p.contexts) (all-ended p.contexts h.contexts).stand.savable;
}
