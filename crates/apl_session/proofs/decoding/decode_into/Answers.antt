use Rattle.std.proofs.Common.{rules, ◌≡◌, ◌++◌, [], ◌∷◌}
use Rattle.apl_session.proofs.Longer.{one_more, IsText-push}
use Rattle.apl_session.proofs.decoding.decode_into.Goals as goal

pub loop-rest-preserved : goal.loop-rest-preserved
loop-rest-preserved c =
    let pushed : c.push.new.self.items ≡ c.loop-rest.text.items ++ c.in-Some.found.0 ∷ [] = search rules in
    rw pushed (record {
      parts = one_more _ _ _ _ _ c.loop-rest.invariant.parts c.in-Some.ensures.parts;
      in_set = IsText-push _ _ c.loop-rest.invariant.in_set c.in-Some.ensures.set;
    })
