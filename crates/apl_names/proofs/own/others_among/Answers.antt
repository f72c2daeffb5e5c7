use Rattle.std.proofs.Common.{rules, ◌≡◌, List, ◌<◌, get_or, length, take, sym, subst}
use Rattle.std.proofs.lemmas.List.{take_all}
use Rattle.std.proofs.lemmas.List.Elements.{All-more}
use Rattle.std.specs.Global.{Vec}
use Rattle.apl_names.specs.Bound.{Hold}
use Rattle.apl_names.specs.Maps.{class_in, found}
use Rattle.apl_names.specs.Owned.{Suffice}
use Rattle.apl_names.specs.declared.bound.Asked.{Asked}
use Rattle.apl_names.proofs.own.others_among.Goals as goal

pub loop-one-preserved : goal.loop-one-preserved
loop-one-preserved c =
    let a = c.one-item.result in
    let within : c.loop-one.one-index < length c.args.asked.now = search rules in
    let at : a ≡ get_or c.args.asked.now c.loop-one.one-index a = search rules in
    let e = c.in_ok-ask_unless_own.ensures in
    λ maps owns holds.
    All-more (λ (x : Asked). class_in (found maps x.name) ≡ x.class) c.args.asked.now c.loop-one.one-index a within
    (c.loop-one.invariant maps owns (e.more maps holds))
    (subst (λ (x : Asked). class_in (found maps x.name) ≡ x.class) at (e.asks maps owns holds))

pub returns : goal.returns
returns c =
    let all : take c.loop-one.one-index c.args.asked.now ≡ c.args.asked.now = take_all c.loop-one.one-index c.args.asked.now (search rules) in
    subst (λ (l : List Asked). Suffice c.args.definition.now c.loop-one.others.items l) all c.loop-one.invariant
