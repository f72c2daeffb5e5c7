use Rattle.std.proofs.Common.{length, ap, ◌∙◌}
use Rattle.apl_arrays.specs.Cells.{Items, cells_of}
use Rattle.apl_arrays.specs.Left.{listed}
use Rattle.apl_arrays.specs.Numbers.{kept_values, values}
use Rattle.apl_arrays.specs.Results.{all_ok, ok_map}
use Rattle.apl_select.specs.Indexing.{place_numbered}
use Rattle.apl_select.specs.inside.Numbered.{at_places}
use Rattle.apl_select.proofs.Vectors.{characters_read, numbers_read}
use Rattle.apl_select.proofs.vector.items_numbered.Goals as goal

pub returns-in-Some : goal.returns-in-Some
returns-in-Some g c =
    let zs = g.L.Lane.numbers c.args.numbers.now in
    ap (λ (t : Items). ok_map (at_places t) (all_ok (place_numbered (length (cells_of t)) c.args.origin) zs)) (ap listed c.in-Nums.is)
    ∙ numbers_read (values c.in-Nums.raw) c.args.origin zs (kept_values c.in-Some.read) (rw c.in-Some.is at c.in_ok-read-in-Nums.ensures)

pub returns-in-Some-2 : goal.returns-in-Some-2
returns-in-Some-2 g c =
    let zs = g.L.Lane.numbers c.args.numbers.now in
    ap (λ (t : Items). ok_map (at_places t) (all_ok (place_numbered (length (cells_of t)) c.args.origin) zs)) (ap listed c.in-Chars.is)
    ∙ characters_read c.in-Chars.raw.now c.args.origin zs c.in-Some-2.read.items ((rw c.in-Some-2.is at c.in_ok-read-in-Chars.ensures) 0)
