use Rattle.std.proofs.Common.{◌≡◌, ◌<◌, [], ◌∷◌, ◌++◌, length, map, ap, ◌∙◌, arith}
use Rattle.apl_listing.specs.inside.Reading.{until, words, source_of}
use Rattle.apl_listing.proofs.Words.{past_less, source_more}
use Rattle.apl_listing.proofs.reading.sources_of.Goals as goal

pub loop-text-smaller : goal.loop-text-smaller
loop-text-smaller c =
    let h : 0 < length c.loop-text.text.now = omega arith in
    omega (arith, ap length c.split.ensures.after, past_less 32 c.loop-text.text.now h)

pub loop-text-preserved : goal.loop-text-preserved
loop-text-preserved c =
    let text = c.loop-text.text.now in
    let out = c.loop-text.sources.items in
    let h : 0 < length text = omega arith in
    let e : c.push.new.self.items ≡ out ++ source_of (until 32 text) ∷ [] = c.in_ok-push.ensures.items ∙ ap (λ s. out ++ s ∷ []) (c.source_of.ensures ∙ ap source_of c.split.ensures.before) in
    ap (λ t. c.push.new.self.items ++ map source_of (words t)) c.split.ensures.after ∙ source_more text c.args.text.now out c.push.new.self.items h e c.loop-text.invariant
