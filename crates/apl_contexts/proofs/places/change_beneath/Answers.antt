use Rattle.std.proofs.Common.{◌∷◌, ◌-◌, List, drop, reverse, take, sym, ap, ◌∙◌, subst, arith}
use Rattle.std.specs.Prelude.{IfSome}
use Rattle.apl_frames.specs.Flat.{Flat}
use Rattle.apl_contexts.specs.declared.context.Context.{Context}
use Rattle.apl_contexts.specs.Contexts.{line_in}
use Rattle.apl_contexts.specs.Moves.{CanMove}
use Rattle.apl_contexts.proofs.Counted.{moves_beneath, newest_is, one_more}
use Rattle.apl_contexts.proofs.places.change_beneath.Goals as goal

pub change-requires : goal.change-requires
change-requires c =
    let places = c.args.places.now.items in
    let old = c.index_mut.result.now in
    let stand = ap (drop 1) (one_more places c.args.count old c.requires.above) ∙ newest_is places c.args.count old c.if-count-gt0.true (omega (arith, c.requires.above)) in
    subst (λ (cs : List Context). IfSome (line_in cs) (λ (f : Flat). CanMove c.args.change f)) (stand ∙ ap (λ (k : Context). k ∷ reverse (take (c.args.count - 1) places)) (sym c.index_mut.ensures.value)) c.requires.can

pub returns-then-count-gt0-clause-moved : goal.returns-then-count-gt0-clause-moved
returns-then-count-gt0-clause-moved c =
    moves_beneath c.args.change c.args.places.now.items c.args.count c.index_mut.result.now c.change.new.self c.if-count-gt0.true c.requires.above c.index_mut.ensures.value c.change.ensures
