-- Parts that keep to the rules are whole.
use Rattle.std.proofs.Common.{◌≡◌, ℕ, ◌+◌, ◌<◌, ◌≤◌, false, List, [], ◌∷◌, ◌++◌, length, reverse, Option, Some, None, refl, sym, ap, ◌∙◌, subst, arith, append_assoc}
use Rattle.std.specs.List.{AllByRecursion}
use Rattle.std.proofs.lemmas.List.{reverse-append}
use Rattle.apl_symbols.specs.declared.primitive.Primitive.TheVariants as primitives
use Rattle.apl_defn.specs.Definitions.{Text, line_of}
use Rattle.apl_defn.proofs.Defined as defined
use Rattle.apl_code.specs.declared.instr.Action.{Action}
use Rattle.apl_code.specs.declared.instr.Action.TheVariants.{Phrase}
use Rattle.apl_code.specs.declared.row.Row.TheVariants.{Call, Monadic, Dyadic}
use Rattle.apl_code.specs.declared.row.Function.TheVariants as functions
use Rattle.apl_code.specs.declared.row.Variable.TheVariants as variables
use Rattle.apl_symbols.specs.declared.class.Class.{Class}
use Rattle.apl_tokens.specs.declared.token.Token.{Token}
use Rattle.apl_translate.specs.Binding.{bound_of, without_label, nothing_left}
use Rattle.apl_translate.specs.Forms.{IsFresh}
use Rattle.apl_translate.proofs.Bindings.{items_fresh}
use Rattle.apl_translate.proofs.OneCode.{one_code}
use Rattle.apl_order.specs.Kept.{Ascend, AreAtMost}
use Rattle.apl_contexts.specs.Contexts.{Newest, Beneath, Idle}
use Rattle.apl_parts.specs.declared.parts.ContextPart.{ContextPart}
use Rattle.apl_parts.specs.declared.parts.ContextPart.TheVariants as parts
use Rattle.apl_parts.specs.declared.parts.StatementPart.{StatementPart}
use Rattle.apl_parts.specs.Pieces.{Waiting, Watched}
use Rattle.apl_parts.specs.Restored as restored
use Rattle.apl_parts.specs.Restored.{AreFew, AreStanding, AreWhole, FitsWaiting, IsWaiting, IsWaitingIn, IsWatched, place_under, standing_in, waiting_in}
use Rattle.apl_parts.specs.Workspaces.{Pieces}
use Rattle.apl_saved.specs.Rules.{AreContexts, AreRuled, Calls, Ends, Follows, IsContext, IsPendent, IsPendentIn, StandsOn, counted, text_of}
use Rattle.apl_loading.proofs.Lists.{append_nil}
use Rattle.apl_loading.proofs.OneContext.{all_by, by_all}
use Rattle.apl_loading.proofs.OneDefinition.{laws}
use Rattle.apl_saved.proofs.StackKinds.{pendent_kinds}

-- ---- lines that await an answer

fresh : (ts : List Token) (classes : List Class) → IsFresh (bound_of ts classes).items
unfolding bound_of
fresh ts classes = items_fresh classes nothing_left (without_label ts)

waits : (text : Text) (w : Waiting) → IsPendent text w → IsWaiting text w
waits text w p = record {
  tokens = p.tokens;
  read = p.read;
  runs = λ code t. subst (λ is. w.done < length is) (one_code p.code code false (bound_of p.tokens w.classes).items p.line.translates t) p.line.runs;
  kinds = pendent_kinds p.code (bound_of p.tokens w.classes).items w.done w.operands (fresh p.tokens w.classes) p.line.translates p.line.runs p.line.kinds;
}

waits_in : (text : Text) (rest : Option Waiting) → IsPendentIn text rest → IsWaitingIn text rest
waits_in text None p = tt
waits_in text (Some w) p = waits text w p

context_whole : (c : ContextPart) → IsContext c → restored.IsContext c
context_whole (parts.Statement s) h = waits s.text s.rest h.1
context_whole (parts.Call c) h = (h.at_line, waits_in (line_of c.definition c.at) c.rest h.rest, h.defined, h.names)
context_whole (parts.Execute s) h = waits s.text s.rest h.1

contexts_whole : (below : Option ContextPart) (standing : ℕ) (cs : List ContextPart) → AreContexts below standing cs → AllByRecursion restored.IsContext cs
contexts_whole below standing [] h = tt
contexts_whole below standing (c ∷ cs) h = (context_whole c h.2, contexts_whole (Some c) (standing + counted c) cs h.3)

-- ---- how they stand

-- nothing calls a statement
no_call : (a : Action) (s : StatementPart) → Calls a (parts.Statement s) → ⊥
no_call (Phrase (Call (variables.Name name))) s h = absurd h
no_call (Phrase (Monadic (functions.Name name))) s h = absurd h
no_call (Phrase (Dyadic (functions.Name name))) s h = absurd h
no_call (Phrase (Monadic (functions.Primitive primitives.Execute))) s h = absurd h
no_call action s h = absurd h

-- what is beneath these, the newest first
abbrev newest : List ContextPart → Option ContextPart
newest [] = None
newest (b ∷ bs) = Some b

-- they stand, whatever the newest does
abbrev Stand : List ContextPart → Type 0
Stand [] = Unit {0}
Stand (b ∷ bs) = AreStanding (place_under b) bs

above_one : (b : ContextPart) (bs : List ContextPart) (rest : Option Waiting) (c : ContextPart) → waiting_in b ≡ rest → Stand (b ∷ bs) → StandsOn (text_of b) rest c → AreStanding (place_under c) (b ∷ bs)
above_one b bs None (parts.Statement s) e h g = (subst (FitsWaiting Idle) (sym e) tt, h)
above_one b bs None (parts.Call c) e h g = absurd g
above_one b bs None (parts.Execute c) e h g = absurd g
above_one b bs (Some w) (parts.Statement s) e h g = absurd (no_call g.last.action s g.calls)
above_one b bs (Some w) (parts.Call c) e h g = (subst (FitsWaiting Beneath) (sym e) tt, h)
above_one b bs (Some w) (parts.Execute c) e h g = (subst (FitsWaiting Beneath) (sym e) tt, h)

above : (bs : List ContextPart) (c : ContextPart) → Stand bs → Follows (newest bs) c → AreStanding (place_under c) bs
above [] (parts.Statement s) h g = tt
above [] (parts.Call c) h g = absurd g
above [] (parts.Execute c) h g = absurd g
above (b ∷ bs) c h g = above_one b bs (waiting_in b) c refl h g

ended : (bs : List ContextPart) → Stand bs → Ends (newest bs) → AreStanding Newest bs
ended [] h e = tt
ended (b ∷ bs) h e = (subst (FitsWaiting Newest) (sym e) tt, h)

turned : (c : ContextPart) (cs bs : List ContextPart) → reverse (c ∷ cs) ++ bs ≡ reverse cs ++ (c ∷ bs)
turned c cs bs = ap (λ xs. xs ++ bs) (reverse-append (c ∷ []) cs) ∙ append_assoc (reverse cs) (c ∷ []) bs

stand : (bs : List ContextPart) (standing : ℕ) (cs : List ContextPart) → Stand bs → AreContexts (newest bs) standing cs → AreStanding Newest (reverse cs ++ bs)
stand bs standing [] h g = ended bs h g
stand bs standing (c ∷ cs) h g = subst (AreStanding Newest) (sym (turned c cs bs)) (stand (c ∷ bs) (standing + counted c) cs (above bs c h g.1) g.3)

-- ---- how many stand

total : List ContextPart → ℕ
total [] = 0
total (c ∷ cs) = counted c + total cs

within : (below : Option ContextPart) (standing : ℕ) (cs : List ContextPart) → standing ≤ 256 → AreContexts below standing cs → standing + total cs ≤ 256
unfolding total
within below standing [] le h = omega (arith, le)
within below standing (c ∷ cs) le h = let i = within (Some c) (standing + counted c) cs h.0 h.3 in omega (arith, i)

counted_one : (c : ContextPart) (cs : List ContextPart) → standing_in (c ∷ cs) ≡ counted c + standing_in cs
counted_one (parts.Statement s) cs = omega arith
counted_one (parts.Call c) cs = omega arith
counted_one (parts.Execute s) cs = omega arith

counted_all : (cs bs : List ContextPart) → standing_in (reverse cs ++ bs) ≡ total cs + standing_in bs
unfolding total
counted_all [] bs = omega arith
counted_all (c ∷ cs) bs =
    let i = counted_all cs (c ∷ bs) in
    let o = counted_one c bs in
    let t : standing_in (reverse (c ∷ cs) ++ bs) ≡ standing_in (reverse cs ++ (c ∷ bs)) = ap standing_in (turned c cs bs) in
    omega (arith, i, o, t)

-- ---- vectors

few_lines : (above n : ℕ) (ls : List ℕ) → above ≤ n → Ascend above ls → AreAtMost n ls → above + length ls ≤ n
few_lines above n [] le a b = omega (arith, le)
few_lines above n (l ∷ ls) le a b = let i = few_lines l n ls b.0 a.1 b.1 in omega (arith, i, a.0)

few : (w : Watched) → IsWatched w → AreFew w
few w h =
    let d = (defined.read laws (h.defined.0 ∷ w.definition.lines) w.definition h.defined.1).few in
    let s = few_lines 0 (length w.definition.lines) w.stops (omega arith) h.stops.0 h.stops.1 in
    let t = few_lines 0 (length w.definition.lines) w.traces (omega arith) h.traces.0 h.traces.1 in
    (omega (arith, d, s), omega (arith, d, t))

all_few : (ws : List Watched) → AllByRecursion IsWatched ws → AllByRecursion AreFew ws
all_few [] h = tt
all_few (w ∷ ws) h = (few w h.0, all_few ws h.1)

-- ---- all

pub whole : (p : Pieces) → AreRuled p → AreWhole p
unfolding total
whole p h =
    let s : AreStanding Newest (reverse p.contexts) = subst (AreStanding Newest) (append_nil (reverse p.contexts)) (stand [] 0 p.contexts tt h.contexts) in
    let n = within None 0 p.contexts (omega arith) h.contexts in
    let c : standing_in (reverse p.contexts) ≡ total p.contexts + 0 = ap standing_in (sym (append_nil (reverse p.contexts))) ∙ counted_all p.contexts [] in
    record {
      origin = h.origin;
      few = all_by AreFew p.functions (all_few p.functions (by_all IsWatched p.functions h.functions));
      contexts = all_by restored.IsContext p.contexts (contexts_whole None 0 p.contexts h.contexts);
      standing = s;
      watched = h.functions;
      within = omega (arith, n, c);
    }
