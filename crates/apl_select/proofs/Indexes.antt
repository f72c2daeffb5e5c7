-- What indexing gives, once its shape is known.
use Rattle.std.proofs.Common.{◌≡◌, ℕ, List, length, ap, sym, ◌∙◌, Ok}
use Rattle.std.proofs.lemmas.List.{length-map}
use Rattle.apl_arrays.specs.declared.cell.Cell.TheVariants.{Num, Char}
use Rattle.apl_arrays.specs.Cells.{Arr, Items, Numbers, Characters, cells_of}
use Rattle.apl_arrays.specs.Checks.{limited}
use Rattle.apl_arrays.specs.Results.{ok_map}
use Rattle.apl_arrays.specs.Views.{picked, selected}
use Rattle.apl_select.specs.Indexing.{Places, items_led_to, joined_shape, led_to}

pub length-picked : (items : Items) (place : List ℕ → ℕ) (is : List (List ℕ)) → length (cells_of (picked items place is)) ≡ length is
length-picked (Numbers zs) place is = length-map _ Num ∙ length-map is _
length-picked (Characters cs) place is = length-map _ Char ∙ length-map is _

pub index_shaped : (b : Arr) (ps : List Places) (shape : List ℕ) (items : Items) (r : Arr) → shape ≡ joined_shape ps → items ≡ items_led_to b.items b.shape ps → limited shape ≡ Ok shape →
    r ≡ record { shape = shape; items = items } → ok_map (λ s. selected b s (led_to ps)) (limited (joined_shape ps)) ≡ Ok r
index_shaped b ps shape items r d e l h =
    ap (ok_map (λ s. selected b s (led_to ps))) (ap limited (sym d) ∙ l ∙ ap (λ (s : List ℕ). Ok s) d)
    ∙ ap (λ (t : Items). Ok (record { shape = joined_shape ps; items = t })) (sym e)
    ∙ ap (λ (s : List ℕ). Ok (record { shape = s; items = items })) (sym d)
    ∙ ap (λ (a : Arr). Ok a) (sym h)
