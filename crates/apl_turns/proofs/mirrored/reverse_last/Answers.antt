use Rattle.std.proofs.Common.{length, get_or, take, Ok, ap, sym, ◌∙◌, List, ℕ}
use Rattle.apl_arrays.specs.Cells.{Arr, Items, cells_of}
use Rattle.apl_arrays.specs.Index.{size_of}
use Rattle.apl_arrays.specs.Left.{listed}
use Rattle.apl_arrays.specs.Ravels.{items_of}
use Rattle.apl_turns.specs.inside.Mirrored.{mirrored}
use Rattle.apl_turns.proofs.FromTheEnd.{reversed_last, length-mirrored, whole_lines}
use Rattle.apl_turns.proofs.mirrored.reverse_last.Goals as goal

pub made_by-requires : goal.made_by-requires
made_by-requires c =
    whole_lines c.args.b.now.shape c.args.axis c.extent_along-extent.result.planes c.extent_along-extent.result.rows (length (cells_of (listed c.items.result))) c.requires
    (ap (λ (t : Items). length (cells_of t)) c.items.ensures.value ∙ c.items.ensures.full)
    (c.extent_along-extent.ensures.planes ∙ ap (λ (s : List ℕ). size_of (take c.args.axis s)) c.shape.ensures.value)
    (c.extent_along-extent.ensures.rows ∙ ap (λ (s : List ℕ). get_or s c.args.axis 0) c.shape.ensures.value)

pub in_shape-requires-clause-full : goal.in_shape-requires-clause-full
in_shape-requires-clause-full c =
    ap (λ (t : Items). length (cells_of t)) c.in_ok-turned.ensures
    ∙ length-mirrored c.extent_along-extent.result.rows (listed c.items.result)
    ∙ ap (λ (t : Items). length (cells_of t)) c.items.ensures.value ∙ c.items.ensures.full
    ∙ sym (ap size_of c.shape-2.ensures.value)

pub returns : goal.returns
returns c =
    ap (λ (a : Arr). Ok a)
    (sym
    (c.in_ok-in_shape.ensures.value ∙ ap (λ (s : List ℕ). record { shape = s; items = items_of c.in_ok-turned.turned }) c.shape-2.ensures.value
    ∙ ap (λ (t : Items). record { shape = c.args.b.now.shape; items = t }) (c.in_ok-turned.ensures ∙ ap (mirrored c.extent_along-extent.result.rows) c.items.ensures.value)
    ∙ reversed_last c.args.b.now c.args.axis c.extent_along-extent.result.rows c.requires c.items.ensures.full (c.extent_along-extent.ensures.rows ∙ ap (λ (s : List ℕ). get_or s c.args.axis 0) c.shape.ensures.value)))
