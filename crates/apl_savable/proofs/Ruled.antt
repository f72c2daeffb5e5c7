-- The parts of an idle state keep to the rules of a file.
use Rattle.std.proofs.Common.{◌≡◌, ◌+◌, ◌≤◌, List, [], ◌∷◌, ◌++◌, map, reverse, Option, Some, None, refl, sym, ap, subst, ◌∙◌, arith, append_assoc}
use Rattle.std.specs.Option.{option_map}
use Rattle.std.proofs.lemmas.List.{append-nil, reverse-append}
use Rattle.apl_defn.specs.Definitions.{Text, line_of}
use Rattle.apl_machine_state.specs.Items.{Rest}
use Rattle.apl_machine_state.specs.Environment.{Context, Statement, Call, Execute, rest_of, standing}
use Rattle.apl_order.specs.Order.{HasHoles, IsAtLine, IsBelow, IsSuspended}
use Rattle.apl_order.specs.Kept.{AreKept, IsKeptContext, names_in}
use Rattle.apl_order.proofs.Standing.{AreIdle, order-idle}
use Rattle.apl_parts.specs.declared.parts.ContextPart.{ContextPart}
use Rattle.apl_parts.specs.Taken.{part_of, waiting_of}
use Rattle.apl_parts.specs.Restored.{waiting_in}
use Rattle.apl_saved.specs.Rules.{AreContexts, Follows, IsContext, IsPendentIn, IsStatement, StandsOn, counted, text_of}
use Rattle.apl_savable.specs.Savable.{AreSavable, HasCalledIn, IsSavableContext, IsUnderWayIn}
use Rattle.apl_savable.specs.Promises.{PartsAreRuled}
use Rattle.apl_savable.proofs.Lines.{awaits-part, pendent-line, pendent-part}
use Rattle.apl_savable.proofs.Origins.{all-local, values-names}
use Rattle.apl_savable.proofs.Objects.{all-named, all-watched, are-listed, functions-ascend, names-apart, of-entries, variables-ascend}
use Rattle.apl_savable.specs.Savable.{IsNamed}

-- suspended, or with one hole
abbrev pub IsAwaiting : Option Rest → Type 0
IsAwaiting None = Unit {0}
IsAwaiting (Some rest) = HasHoles 1 (Some rest)

one-hole : (o : Option Rest) → HasHoles 1 o → IsAwaiting o
one-hole None h = tt
one-hole (Some rest) h = h

pub idle-rest : (o : Option Rest) → IsSuspended o → IsAwaiting o
idle-rest None h = tt
idle-rest (Some rest) h = absurd h

-- ---- one context

pendent-in : (text : Text) (o : Option Rest) → IsUnderWayIn text o → IsAwaiting o → IsPendentIn text (option_map waiting_of o)
pendent-in text None u h = tt
pendent-in text (Some rest) u h = pendent-part text rest u (pendent-line text rest u h)

ruled-context : (c : Context) → IsSavableContext c → IsKeptContext c → IsAtLine c → IsAwaiting (rest_of c) → IsContext (part_of c)
ruled-context (Statement text rest) s k at h = (s.0, pendent-part text rest s.1 (pendent-line text rest s.1 h))
ruled-context (Execute text rest) s k at h = (s.0, pendent-part text rest s.1 (pendent-line text rest s.1 h))
ruled-context (Call d n locals rest) s k at h = record {
  defined = k.0;
  at_line = at;
  names = values-names locals (names_in d.header);
  locals = all-local d locals k.1 s.0;
  rest = pendent-in (line_of d n) rest s.1 h;
}

-- ---- contexts above one another

newest : List Context → Option ContextPart
newest [] = None
newest (c ∷ cs) = Some (part_of c)

counted-more : (c : Context) (cs : List Context) → standing cs + counted (part_of c) ≡ standing (c ∷ cs)
counted-more (Statement text rest) cs = omega arith
counted-more (Call d n locals rest) cs = omega arith
counted-more (Execute text rest) cs = omega arith

-- above a context stands what it has called, or a statement above one that is suspended
stands-on : (text : Text) (rest : Option Rest) (above : Context) → IsUnderWayIn text rest → HasHoles 1 rest → HasCalledIn rest above → StandsOn text (option_map waiting_of rest) (part_of above)
stands-on text None above u h c = absurd h
stands-on text (Some rest) above u h c = awaits-part text rest above u c

follows-pendent : (below above : Context) → IsSavableContext below → HasHoles 1 (rest_of below) → HasCalledIn (rest_of below) above → StandsOn (text_of (part_of below)) (waiting_in (part_of below)) (part_of above)
follows-pendent (Statement text rest) above s h c = awaits-part text rest above s.1 c
follows-pendent (Call d n locals rest) above s h c = stands-on (line_of d n) rest above s.1 h c
follows-pendent (Execute text rest) above s h c = awaits-part text rest above s.1 c

on-suspended : (text : Text) (rest : Option Rest) (above : ContextPart) → IsSuspended rest → IsStatement above → StandsOn text (option_map waiting_of rest) above
on-suspended text None above h s = s
on-suspended text (Some rest) above h s = absurd h

follows-idle : (below : Context) (above : ContextPart) → IsSuspended (rest_of below) → IsStatement above → StandsOn (text_of (part_of below)) (waiting_in (part_of below)) above
follows-idle (Statement text rest) above h s = absurd h
follows-idle (Call d n locals rest) above h s = on-suspended (line_of d n) rest above h s
follows-idle (Execute text rest) above h s = absurd h

follows : (c : Context) (cs : List Context) → AreSavable (c ∷ cs) → IsBelow c cs → Follows (newest cs) (part_of c)
unfolding newest
follows (Statement text rest) [] s b = tt
follows (Statement text rest) (c ∷ cs) s b = follows-idle c (part_of (Statement text rest)) b.1 tt
follows (Call d n locals rest) [] s b = absurd b
follows (Call d n locals rest) (c ∷ cs) s b = follows-pendent c (Call d n locals rest) s.2.0 b.1 s.1
follows (Execute text rest) [] s b = absurd b
follows (Execute text rest) (c ∷ cs) s b = follows-pendent c (Execute text rest) s.2.0 b.1 s.1

pub below-awaits : (c b : Context) (bs : List Context) → IsBelow c (b ∷ bs) → IsAtLine b × IsAwaiting (rest_of b) × IsBelow b bs
below-awaits (Statement text rest) b bs h = (h.0, idle-rest (rest_of b) h.1, h.2)
below-awaits (Call d n locals rest) b bs h = (h.0, one-hole (rest_of b) h.1, h.2)
below-awaits (Execute text rest) b bs h = (h.0, one-hole (rest_of b) h.1, h.2)

-- each context, from the newest down, with those above it
under : (c : Context) (cs : List Context) (above : List ContextPart) → AreSavable (c ∷ cs) → AreKept (c ∷ cs) → standing (c ∷ cs) ≤ 256 → IsAtLine c → IsAwaiting (rest_of c) → IsBelow c cs
    → AreContexts (Some (part_of c)) (standing (c ∷ cs)) above → AreContexts None 0 (reverse (map part_of (c ∷ cs)) ++ above)
unfolding newest
under c [] above s k few at h b a = (
  subst (λ n. n ≤ 256) (sym (counted-more c [])) few,
  follows c [] s b,
  ruled-context c s.0 k.0 at h,
  subst (λ n. AreContexts (Some (part_of c)) n above) (sym (counted-more c [])) a,
)
under c (d ∷ ds) above s k few at h b a =
    let lower = below-awaits c d ds b in
    let here : AreContexts (Some (part_of d)) (standing (d ∷ ds)) (part_of c ∷ above) = (
      subst (λ n. n ≤ 256) (sym (counted-more c (d ∷ ds))) few,
      follows c (d ∷ ds) s b,
      ruled-context c s.0 k.0 at h,
      subst (λ n. AreContexts (Some (part_of c)) n above) (sym (counted-more c (d ∷ ds))) a,
    ) in
    let fewer : standing (d ∷ ds) ≤ 256 = omega (arith, counted-more c (d ∷ ds), few) in
    subst (AreContexts None 0) (sym (turned (map part_of (d ∷ ds)) (part_of c) above)) (under d ds (part_of c ∷ above) s.2 k.1 fewer lower.0 lower.1 lower.2 here)
  where
    turned : (ps : List ContextPart) (p : ContextPart) (above : List ContextPart) → reverse (p ∷ ps) ++ above ≡ reverse ps ++ (p ∷ above)
    turned ps p above = ap (λ l. l ++ above) (reverse-append (p ∷ []) ps) ∙ append_assoc (reverse ps) (p ∷ []) above

ends-idle : (c : Context) → IsSuspended (rest_of c) → waiting_in (part_of c) ≡ None
ends-idle (Statement text rest) h = absurd h
ends-idle (Call d n locals None) h = refl
ends-idle (Call d n locals (Some rest)) h = absurd h
ends-idle (Execute text rest) h = absurd h

ruled-contexts : (cs : List Context) → AreSavable cs → AreKept cs → standing cs ≤ 256 → AreIdle cs → AreContexts None 0 (reverse (map part_of cs))
ruled-contexts [] s k few h = tt
ruled-contexts (c ∷ cs) s k few h = subst (AreContexts None 0) (append-nil (reverse (map part_of (c ∷ cs)))) (under c cs [] s k few h.0 (idle-rest (rest_of c) h.1) h.2 (ends-idle c h.1))

pub parts-ruled : PartsAreRuled
parts-ruled s h idle =
    let g = h.kept.keeps.globals in
    let listed = are-listed s.stops s.world.traces s.world.globals g h.kept.keeps.stopped h.kept.keeps.traced in
    record {
      origin = h.origin;
      functions = all-watched s.stops s.world.traces s.world.globals listed;
      functions_ascend = functions-ascend s.stops s.world.traces s.world.globals g.ascend listed;
      variables = all-named s.world.globals (of-entries IsNamed s.world.globals g.ascend h.named);
      variables_ascend = variables-ascend s.world.globals g.ascend;
      apart = names-apart s.stops s.world.traces s.world.globals g.ascend listed;
      contexts = ruled-contexts s.contexts h.contexts h.kept.keeps.kept h.kept.keeps.few (order-idle s.contexts idle h.kept.order);
    }
