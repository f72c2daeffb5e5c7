use Rattle.std.proofs.Common.{◌≡◌, ◌+◌, ℤ, pos, List, map, ap, ◌∙◌}
use Rattle.std.specs.Ordering.{int_eq}
use Rattle.std.specs.List.{position_or_len}
use Rattle.apl_arrays.specs.Origins.{origin_number}
use Rattle.apl_search.proofs.Searches.{characters_places}
use Rattle.apl_search.proofs.places.character_places.Goals as goal

pub returns : goal.returns
returns c =
    let among : c.as_slice-2.result.now ≡ map pos c.args.among.now = c.as_slice-2.ensures.value ∙ c.in_ok-among.ensures in
    let sought : c.as_slice.result.now ≡ map pos c.args.sought.now = c.as_slice.ensures.value ∙ c.in_ok-sought.ensures in
    c.in_ok-places.ensures
    ∙ ap (map (λ (y : ℤ). pos (origin_number c.args.origin + position_or_len (int_eq y) c.as_slice-2.result.now))) sought
    ∙ ap (λ (l : List ℤ). map (λ (y : ℤ). pos (origin_number c.args.origin + position_or_len (int_eq y) l)) (map pos c.args.sought.now)) among
    ∙ characters_places (origin_number c.args.origin) c.args.among.now c.args.sought.now
