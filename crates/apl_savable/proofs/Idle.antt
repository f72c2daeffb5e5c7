-- The state of parts that a machine can be made of is idle, and so is that of parts that keep to the rules of a file.
use Rattle.std.proofs.Common.{◌≡◌, true, List, [], ◌∷◌, map, reverse, Option, Some, None, refl, sym, ap, ◌∙◌}
use Rattle.apl_machine_state.specs.Environment.{is_idle_in}
use Rattle.apl_machine_state.specs.State.{State, is_idle}
use Rattle.apl_contexts.specs.Contexts.{Newest}
use Rattle.apl_parts.specs.declared.parts.ContextPart.{ContextPart}
use Rattle.apl_parts.specs.declared.parts.ContextPart.TheVariants.{Statement, Call, Execute}
use Rattle.apl_parts.specs.Pieces.{Standing, Waiting}
use Rattle.apl_parts.specs.Workspaces.{Pieces}
use Rattle.apl_parts.specs.Restored.{AreStanding, AreWhole, FitsWaiting, context_of, state_of}
use Rattle.apl_parts.proofs.Added.{map_reverse}
use Rattle.apl_saved.specs.Rules.{AreRuled}
use Rattle.apl_savable.proofs.Loaded.{ruled-whole}

newest_idle : (c : ContextPart) (cs : List ContextPart) → AreStanding Newest (c ∷ cs) → is_idle_in (context_of c ∷ map context_of cs) ≡ true
newest_idle (Statement s) cs h = absurd h.0
newest_idle (Execute s) cs h = absurd h.0
newest_idle (Call c) cs h = call_idle c c.rest refl h.0
  where
    call_idle : (d : Standing) (w : Option Waiting) → d.rest ≡ w → FitsWaiting Newest w → is_idle_in (context_of (Call d) ∷ map context_of cs) ≡ true
    call_idle d None e h = rw e refl
    call_idle d (Some w) e h = absurd h

contexts_idle : (cs : List ContextPart) → AreStanding Newest cs → is_idle_in (map context_of cs) ≡ true
contexts_idle [] h = refl
contexts_idle (c ∷ cs) h = newest_idle c cs h

pub whole_idle : (s : State) (p : Pieces) → s ≡ state_of p → AreWhole p → is_idle s ≡ true
whole_idle s p e h = ap is_idle e ∙ ap is_idle_in (sym (map_reverse context_of p.contexts)) ∙ contexts_idle (reverse p.contexts) h.standing

pub ruled-idle : (p : Pieces) → AreRuled p → is_idle (state_of p) ≡ true
ruled-idle p h = whole_idle (state_of p) p refl (ruled-whole p h)
