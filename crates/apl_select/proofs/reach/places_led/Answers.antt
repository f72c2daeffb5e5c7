use Rattle.std.proofs.Common.{◌≡◌, ℕ, ◌≤◌, [], ◌∷◌, List, drop, length, arith, ap, sym, ◌∙◌}
use Rattle.std.specs.declared.vec.Vec.{Vec}
use Rattle.std.specs.declared.alloc.Global.{Global}
use Rattle.std.proofs.lemmas.List.{drop_all}
use Rattle.std.proofs.lemmas.Result.{IfOk-weaker}
use Rattle.apl_select.specs.inside.Reached.{led, reached}
use Rattle.apl_select.proofs.Reaching.{reached_led}
use Rattle.apl_select.proofs.reach.places_led.Goals as goal

pub returns : goal.returns
returns c =
    let all : length c.args.shape.now ≤ length c.args.shape.now = omega arith in
    IfOk-weaker c.starts_of.result
    (λ (v : Vec ℕ Global). reached v.items (drop (length c.args.shape.now) c.args.shape.now) (drop (length c.args.shape.now) c.args.picks.now) ≡ reached (0 ∷ []) c.args.shape.now c.args.picks.now)
    (λ (v : Vec ℕ Global). v.items ≡ led c.args.shape.now c.args.picks.now)
    (λ v way. sym (ap (λ (z : List ℕ). reached v.items z (drop (length c.args.shape.now) c.args.picks.now)) (drop_all (length c.args.shape.now) c.args.shape.now all))
    ∙ way ∙ reached_led c.args.shape.now c.args.picks.now c.requires.on_axes)
    c.starts_of.ensures.way
