use Rattle.std.proofs.Common.{ℤ, List, length, ◌≡◌, ℕ, ◌+◌, ◌-◌, ◌*◌, ◌<◌, sym, subst}
use Rattle.apl_folds.specs.Lines.{IsLine}
use Rattle.apl_folds.specs.inside.Prefixes.{index_along}
use Rattle.apl_folds.proofs.ByPlaces.{line_of_place}
use Rattle.apl_scalar.proofs.OfLanes.{as_many}
use Rattle.apl_folds.proofs.prefixes.prefix.Goals as goal

pub fold_strided-requires : goal.fold_strided-requires
fold_strided-requires g c =
    let zs : List ℤ = g.L.Lane.numbers c.args.numbers.now in
    let size : length zs ≡ length c.args.numbers.now = as_many g.L.Lane.value g.L.Lane.numbers g.met.L.Lane.each c.args.numbers.now in
    let place = index_along c.args.axis c.args.at in
    let Lies : ℕ → Type 0 = λ n. IsLine n c.args.axis (c.args.at - place * c.args.axis.up) (place + 1) in
    let Below : ℕ → Type 0 = λ n. c.args.at < n in
    subst Lies size (line_of_place zs c.args.axis c.args.at c.requires.whole (subst Below (sym size) c.requires.within))
