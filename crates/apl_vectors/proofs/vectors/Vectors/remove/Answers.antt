use Rattle.std.proofs.Common.{◌≤◌, ◌∙◌, sym, ap, length, ℕ, Global, Vec}
use Rattle.std.specs.BTreeMap.{is_at}
use Rattle.std.specs.Cmp.Lexicographic.{slice_cmp}
use Rattle.std.specs.Ordering.{nat_cmp}
use Rattle.std.specs.Str.{bytes_eq}
use Rattle.apl_vectors.specs.Vectors.{without_vector}
use Rattle.apl_vectors.proofs.Entries.{shown, remove-shown, same_name, All-remove_entry}
use Rattle.apl_vectors.proofs.vectors.Vectors.remove.Goals as goal

pub invariant_of-self : goal.invariant_of-self
invariant_of-self c =
    rw c.remove.ensures.entries (All-remove_entry (λ (v : Vec ℕ Global). length v.items ≤ 999) (is_at (slice_cmp nat_cmp c.args.name.now)) c.self.inside.vectors.entries c.self.invariant)

pub returns : goal.returns
returns c =
    ap (shown (λ (v : Vec ℕ Global). v.items)) c.remove.ensures.entries
    ∙ sym (remove-shown (λ (v : Vec ℕ Global). v.items) (bytes_eq c.args.name.now) (is_at (slice_cmp nat_cmp c.args.name.now)) (same_name c.args.name.now) c.self.inside.vectors.entries)
    ∙ ap (without_vector c.args.name.now) c.self.view_is
