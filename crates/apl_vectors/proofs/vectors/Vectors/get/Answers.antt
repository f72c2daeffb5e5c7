use Rattle.std.proofs.Common.{◌≡◌, ◌≤◌, ◌∙◌, sym, ap, subst, [], length, ℕ, List, Option, Global, Vec}
use Rattle.std.specs.Option.{option_map, IfSome, unwrap_or}
use Rattle.std.specs.BTreeMap.{is_at}
use Rattle.std.specs.Cmp.Lexicographic.{slice_cmp}
use Rattle.std.specs.Ordering.{nat_cmp}
use Rattle.std.specs.Map.{lookup}
use Rattle.std.specs.Str.{bytes_eq}
use Rattle.std.proofs.lemmas.Map.Entries.{All-lookup}
use Rattle.apl_vectors.specs.Vectors.{vector_of}
use Rattle.apl_vectors.proofs.Entries.{shown, lookup-shown, same_name}
use Rattle.apl_vectors.proofs.vectors.Vectors.get.Goals as goal

-- the vector that the map finds is that of the names that contracts see
found_is : (name : List ℕ) (es : List (List ℕ × Vec ℕ Global)) → unwrap_or (option_map (λ v. v.items) (lookup (is_at (slice_cmp nat_cmp name)) es)) [] ≡ vector_of name (shown (λ v. v.items) es)
found_is name es = ap (λ (o : Option (List ℕ)). unwrap_or o []) (sym (lookup-shown (λ (v : Vec ℕ Global). v.items) (bytes_eq name) (is_at (slice_cmp nat_cmp name)) (same_name name) es))

pub returns-in-Some-clause-value : goal.returns-in-Some-clause-value
returns-in-Some-clause-value c =
    c.as_slice.ensures.value
    ∙ ap (λ (o : Option (Vec ℕ Global)). unwrap_or (option_map (λ v. v.items) o) []) c.in-Some.ensures.value
    ∙ found_is c.args.name.now c.self.inside.vectors.entries
    ∙ ap (vector_of c.args.name.now) c.self.view_is

pub returns-in-Some-clause-few : goal.returns-in-Some-clause-few
returns-in-Some-clause-few c =
    let all = All-lookup (λ (v : Vec ℕ Global). length v.items ≤ 999) (is_at (slice_cmp nat_cmp c.args.name.now)) c.self.inside.vectors.entries c.self.invariant in
    rw c.as_slice.ensures.value (subst (λ (o : Option (Vec ℕ Global)). IfSome o (λ v. length v.items ≤ 999)) (sym c.in-Some.ensures.value) all)

pub returns-in-None-clause-value : goal.returns-in-None-clause-value
returns-in-None-clause-value c =
    ap (λ (o : Option (Vec ℕ Global)). unwrap_or (option_map (λ v. v.items) o) []) c.in-None.ensures.value
    ∙ found_is c.args.name.now c.self.inside.vectors.entries
    ∙ ap (vector_of c.args.name.now) c.self.view_is
