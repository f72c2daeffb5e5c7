use Rattle.std.proofs.Common.{ℕ, ◌+◌, ◌<◌, ◌∙◌, List, length, map, take, Ok, ap, sym, subst, arith}
use Rattle.apl_tokens.specs.declared.token.Token.{Token}
use Rattle.std.specs.declared.alloc.Global.{Global}
use Rattle.std.specs.declared.vec.Vec.{Vec}
use Rattle.std.specs.List.{AllZip}
use Rattle.apl_listed.specs.Listings.{Lists}
use Rattle.apl_listed.proofs.Lines.{one_more}
use Rattle.apl_listed.proofs.listings.listings.Goals as goal

pub loop-i-preserved : goal.loop-i-preserved
loop-i-preserved c =
    let items = λ (bytes : Vec ℕ Global). bytes.items in
    let d = c.args.definition.now in
    let below : c.loop-i.i < length d.lines = omega arith in
    let more = one_more items c.args.machine.now d c.loop-i.found.items c.loop-i.i c.in_ok-line_listing.field-0 c.as_slice.result.now below c.loop-i.invariant (c.in_ok-tokens.ensures ∙ ap (λ (ts : List Token). Ok ts) (sym c.as_slice.ensures.value)) c.in_ok-line_listing.ensures in
    subst (λ (found : List (Vec ℕ Global)). AllZip (Lists c.args.machine.now) (take (c.loop-i.i + 1) d.lines) (map items found)) (sym c.in_ok-push.ensures.items) more
