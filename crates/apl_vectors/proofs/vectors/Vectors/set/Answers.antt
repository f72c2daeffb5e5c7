use Rattle.std.proofs.Common.{◌≡◌, ◌≤◌, ◌==◌, false, refl, ◌∙◌, sym, ap, [], ◌∷◌, length, ℕ, List, Global, Vec}
use Rattle.std.specs.BTreeMap.{insert_entry}
use Rattle.std.specs.Cmp.Lexicographic.{slice_cmp}
use Rattle.std.specs.Ordering.{nat_cmp}
use Rattle.apl_vectors.specs.Vectors.{Vectors, with_vector}
use Rattle.apl_vectors.proofs.Entries.{shown, insert-shown, All-insert_entry}
use Rattle.apl_vectors.proofs.vectors.Vectors.set.Goals as goal

-- a vector with lines is listed
listed : (name lines : List ℕ) (vectors : Vectors) → (length lines == 0) ≡ false → insert_entry (slice_cmp nat_cmp) vectors name lines ≡ with_vector name lines vectors
listed name [] vectors h = absurd cc
listed name (n ∷ ns) vectors h = refl

pub invariant_of-self : goal.invariant_of-self
invariant_of-self c =
    rw c.in-Ok.ensures.entries (All-insert_entry (λ (v : Vec ℕ Global). length v.items ≤ 999) (slice_cmp nat_cmp) c.args.name.now c.args.lines c.self.inside.vectors.entries c.self.invariant c.requires)

pub returns-in-Ok-clause-ok : goal.returns-in-Ok-clause-ok
returns-in-Ok-clause-ok c =
    let some : (length c.args.lines.items == 0) ≡ false = rw (sym c.args.lines.ok.0) (sym c.if-is_empty.ensures) in
    ap (shown (λ (v : Vec ℕ Global). v.items)) c.in-Ok.ensures.entries
    ∙ sym (insert-shown (λ (v : Vec ℕ Global). v.items) (slice_cmp nat_cmp) c.args.name.now c.args.lines c.self.inside.vectors.entries)
    ∙ listed c.args.name.now c.args.lines.items (shown (λ (v : Vec ℕ Global). v.items) c.self.inside.vectors.entries) some
    ∙ ap (with_vector c.args.name.now c.args.lines.items) c.self.view_is
