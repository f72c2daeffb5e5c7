-- The labels of a function are numbers of its lines.
use Rattle.std.proofs.Common.{◌≡◌, ℕ, suc, ◌≤◌, ◌+◌, List, [], ◌∷◌, length, All, Option, Some, None, subst, arith}
use Rattle.std.proofs.lemmas.List.Elements.{All-append, All-from_recursion, All-same}
use Rattle.apl_defn.specs.Definitions.{Text, Definition}
use Rattle.apl_defn.specs.Defining.{IsDefined, labelled, labels_from}
use Rattle.apl_defn.proofs.Limits.{defined_made}

abbrev IsSmall : Text × ℕ → Type 0
IsSmall label = label.1 ≤ 999

labelled_small : (n : ℕ) (label : Option Text) → n ≤ 999 → All IsSmall (labelled n label)
labelled_small n None h = All-from_recursion IsSmall [] tt
labelled_small n (Some label) h = All-from_recursion IsSmall ((label, n) ∷ []) (h, tt)

labels_small : (n : ℕ) (lines : List Text) → n + length lines ≤ 1000 → All IsSmall (labels_from n lines)
labels_small n [] h = All-from_recursion IsSmall [] tt
labels_small n (line ∷ lines) h = All-append IsSmall (labelled n _) (labels_from (suc n) lines) (labelled_small n _ (omega arith)) (labels_small (suc n) lines (omega arith))

few_labels : (d : Definition) → IsDefined d → All IsSmall d.labels
few_labels d p =
    let m = (defined_made p.0 d.lines d p.1).2 in
    let few = m.few in
    subst (λ (e : Definition). All IsSmall e.labels) m.is (labels_small 1 d.lines (omega (arith, few)))

-- the number of a label's line is at most 999
pub labels_few : (d : Definition) (labels : List (Text × ℕ)) → labels ≡ d.labels → IsDefined d → All (λ l. l.1 ≤ 999) labels
labels_few d labels e p = All-same IsSmall labels d.labels e (few_labels d p)
