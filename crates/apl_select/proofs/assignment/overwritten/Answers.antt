use Rattle.std.proofs.Common.{ℕ, List, length, ap, sym, ◌∙◌}
use Rattle.apl_arrays.specs.Cells.{Items, cells_of}
use Rattle.apl_arrays.specs.Index.{size_of}
use Rattle.apl_arrays.specs.Ravels.{items_of}
use Rattle.apl_select.proofs.Writing.{length-put_items, put_along}
use Rattle.apl_select.proofs.assignment.overwritten.Goals as goal

pub in_shape-requires-clause-full : goal.in_shape-requires-clause-full
in_shape-requires-clause-full c =
    ap (λ (t : Items). length (cells_of t))
    (put_along c.args.v.now.items c.args.b.now.items _ _ (items_of c.in_ok-ravel.ravel) c.args.places.now c.requires.within c.requires.enough c.items.ensures.value c.items-2.ensures.value c.in_ok-ravel.ensures)
    ∙ length-put_items c.args.v.now.items c.args.b.now.items c.args.places.now ∙ c.items.ensures.full ∙ sym (ap size_of c.shape.ensures.value)

pub returns : goal.returns
returns c =
    c.in_ok-in_shape.ensures.value
    ∙ ap (λ (s : List ℕ). record { shape = s; items = items_of c.in_ok-ravel.ravel }) c.shape.ensures.value
    ∙ ap (λ (t : Items). record { shape = c.args.v.now.shape; items = t })
    (put_along c.args.v.now.items c.args.b.now.items _ _ (items_of c.in_ok-ravel.ravel) c.args.places.now c.requires.within c.requires.enough c.items.ensures.value c.items-2.ensures.value c.in_ok-ravel.ensures)
