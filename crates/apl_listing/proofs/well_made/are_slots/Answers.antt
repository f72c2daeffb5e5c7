use Rattle.std.proofs.Common.{◌≡◌, ◌+◌, ◌∷◌, None, get_or, drop, drop-cons, add-one, sym, ap, ◌∙◌, subst}
use Rattle.apl_code.specs.Instr.{AreSlots}
use Rattle.apl_listing.proofs.well_made.are_slots.Goals as goal

pub loop-source-preserved : goal.loop-source-preserved
loop-source-preserved c =
    let s = c.args.sources.now in
    let i = c.loop-source.source-index in
    let e : drop i s ≡ get_or s i None ∷ drop (i + 1) s = drop-cons s i None c.loop-source-test.true ∙ ap (λ n. get_or s i None ∷ drop n s) (sym (add-one i)) in
    record {
      to = λ h. c.loop-source.invariant.to (subst AreSlots (sym e) (c.if-not-is_slot.ensures, h));
      from = λ h. (subst AreSlots e (c.loop-source.invariant.from h)).1;
    }
