use Rattle.std.proofs.Common.{◌≡◌, ℤ, pos, List, map, ap, ◌∙◌}
use Rattle.std.specs.Ordering.{int_eq}
use Rattle.std.specs.List.{list_any}
use Rattle.apl_scalar.specs.Functions.{number_of}
use Rattle.apl_search.proofs.Searches.{characters_stand}
use Rattle.apl_search.proofs.membership.characters_standing.Goals as goal

pub returns : goal.returns
returns c =
    let among : c.as_slice-2.result.now ≡ map pos c.args.among.now = c.as_slice-2.ensures.value ∙ c.in_ok-among.ensures in
    let sought : c.as_slice.result.now ≡ map pos c.args.sought.now = c.as_slice.ensures.value ∙ c.in_ok-sought.ensures in
    c.in_ok-verdicts.ensures
    ∙ ap (map (λ (x : ℤ). number_of (list_any (int_eq x) c.as_slice-2.result.now))) sought
    ∙ ap (λ (l : List ℤ). map (λ (x : ℤ). number_of (list_any (int_eq x) l)) (map pos c.args.sought.now)) among
    ∙ characters_stand c.args.sought.now c.args.among.now
