use Rattle.std.proofs.Common.{◌≡◌, ℕ, ◌+◌, ◌<◌, List, set, length, get_or, ap, sym, ◌∙◌, arith, add-one}
use Rattle.std.proofs.lemmas.List.{get_or_read}
use Rattle.apl_arrays.specs.Written.{serving, with_items}
use Rattle.apl_arrays.proofs.written.write_items.Goals as goal

pub bounds-items-source : goal.bounds-items-source
bounds-items-source g c = rw (c.serving-source.ensures) (c.requires.enough c.loop-k.k c.loop-k-test.true)

pub offset_bounds-items-source : goal.offset_bounds-items-source
offset_bounds-items-source g c = omega (arith, c.requires.enough c.loop-k.k c.loop-k-test.true)

-- one write more
more : {A : Type 0} (d : A) (xs out ys : List A) (places : List ℕ) (k j : ℕ) (v : A) → j ≡ serving (length ys) k → j < length ys → v ≡ get_or ys j v → out ≡ with_items d xs places ys k →
    set out (get_or places k 0) v ≡ with_items d xs places ys (k + 1)
more {A = A} d xs out ys places k j v s l e h =
    ap (λ (o : List A). set o (get_or places k 0) v) h
    ∙ ap (λ (x : A). set (with_items d xs places ys k) (get_or places k 0) x) (get_or_read ys j v l e d ∙ ap (λ (i : ℕ). get_or ys i d) s)
    ∙ ap (λ (n : ℕ). with_items d xs places ys n) (sym (add-one k))

pub loop-k-preserved : goal.loop-k-preserved
loop-k-preserved g c = λ d.
    more d c.args.out.now c.loop-k.out c.args.items.now c.args.places.now c.loop-k.k c.serving-source.result c.index-items-source.result c.serving-source.ensures
    (rw (c.serving-source.ensures) (c.requires.enough c.loop-k.k c.loop-k-test.true)) c.index-items-source.is (c.loop-k.invariant d)
