use Rattle.std.proofs.Common.{pos, ◌++◌, ◌∷◌, [], get_or, ap, sym, ◌∙◌, Some}
use Rattle.apl_select.specs.Compress.{is_one}
use Rattle.apl_select.specs.Lined.{place_served}
use Rattle.apl_select.proofs.Choosing.{kept_more_no, kept_more_yes}
use Rattle.apl_select.proofs.Lanes.{length-numbers}
use Rattle.apl_select.proofs.bits.kept_over.Goals as goal

pub loop-k-preserved-then-not-is_one_at : goal.loop-k-preserved-then-not-is_one_at
loop-k-preserved-then-not-is_one_at g c =
    let zs = g.L.Lane.numbers c.args.bits.now in
    kept_more_no zs c.args.len c.loop-k.k c.loop-k.places.items c.loop-k.invariant
    (ap (λ n. is_one (get_or zs (place_served n c.loop-k.k) (pos 0))) (length-numbers g.L.Lane.value g.L.Lane.numbers g.met.L.Lane.each c.args.bits.now)
    ∙ ap (λ j. is_one (get_or zs j (pos 0))) (sym c.extended.ensures) ∙ sym c.is_one_at.ensures ∙ c.if-not-is_one_at.true)

pub loop-k-preserved : goal.loop-k-preserved
loop-k-preserved g c =
    let zs = g.L.Lane.numbers c.args.bits.now in
    kept_more_yes zs c.args.len c.loop-k.k c.loop-k.places.items c.push.new.self.items c.loop-k.invariant
    (c.in_ok-push.ensures.items ∙ ap (λ j. c.loop-k.places.items ++ Some j ∷ []) c.extended-in-loop-k.ensures)
    (ap (λ n. is_one (get_or zs (place_served n c.loop-k.k) (pos 0))) (length-numbers g.L.Lane.value g.L.Lane.numbers g.met.L.Lane.each c.args.bits.now)
    ∙ ap (λ j. is_one (get_or zs j (pos 0))) (sym c.extended.ensures) ∙ sym c.is_one_at.ensures ∙ c.if-not-is_one_at.false)
