-- The steps of loops.
use Rattle.std.proofs.Common.{◌≡◌, ℕ, suc, ◌+◌, ◌<◌, true, false, List, [], ◌∷◌, ◌++◌, drop, drop-cons, length, get_or, Option, Some, None, Ok, Err, refl, sym, ap, ◌∙◌, append_assoc, arith}
use Rattle.std.specs.Prelude.{option_map, is_ok}
use Rattle.apl_defn.specs.Definitions.{Text}
use Rattle.apl_tokens.specs.Tokens.{tokens_of, Answer}
use Rattle.apl_defn.specs.Reading.{local_before}
use Rattle.apl_defn.specs.Defining.{label_among, labelled, labels_from, fault_or, first_fault}

-- locals behind others
abbrev pub prefixed : List Text → Option (List Text) → Option (List Text)
prefixed out words = option_map (λ ws. out ++ ws) words

pub prefixed_more : (out : List Text) (word : Text) (words : Option (List Text)) → prefixed (out ++ word ∷ []) words ≡ prefixed out (local_before true (Some word) words)
prefixed_more out word None = refl
prefixed_more out word (Some ws) = ap Some (append_assoc out (word ∷ []) ws)

-- the labels of the lines from a place on
pub labels_more : (labels after : List (Text × ℕ)) (lines : List Text) (i : ℕ) (line : Text) (all : List (Text × ℕ)) → i < length lines → line ≡ get_or lines i line → after ≡ labels ++ labelled (i + 1) (label_among (tokens_of line)) → labels ++ labels_from (suc i) (drop i lines) ≡ all → after ++ labels_from (suc (i + 1)) (drop (i + 1) lines) ≡ all
labels_more labels after lines i line all lt is e h =
    let n : i + 1 ≡ suc i = omega arith in
    let ls : drop i lines ≡ line ∷ drop (suc i) lines = drop-cons lines i line lt ∙ ap (λ l. l ∷ drop (suc i) lines) (sym is) in
    let whole : labels ++ (labelled (suc i) (label_among (tokens_of line)) ++ labels_from (suc (suc i)) (drop (suc i) lines)) ≡ all = ap (λ (ks : List Text). labels ++ labels_from (suc i) ks) (sym ls) ∙ h in
    rw (e, n) (append_assoc labels _ _ ∙ whole)

-- the first fault among the lines from a place on
fault_at : (lines : List Text) (i : ℕ) (line : Text) → i < length lines → line ≡ get_or lines i line → first_fault (suc i) (drop i lines) ≡ fault_or (tokens_of line) (suc i) (first_fault (suc (suc i)) (drop (suc i) lines))
fault_at lines i line lt is =
    let ls : drop i lines ≡ line ∷ drop (suc i) lines = drop-cons lines i line lt ∙ ap (λ l. l ∷ drop (suc i) lines) (sym is) in
    ap (first_fault (suc i)) ls

ok_passes : (a : Answer) (n : ℕ) (o : Option ℕ) → is_ok a ≡ true → fault_or a n o ≡ o
ok_passes (Ok ts) n o e = refl
ok_passes (Err x) n o e = absurd cc

err_stops : (a : Answer) (n : ℕ) (o : Option ℕ) → is_ok a ≡ false → fault_or a n o ≡ Some n
err_stops (Ok ts) n o e = absurd cc
err_stops (Err x) n o e = refl

pub no_fault : (lines : List Text) (i : ℕ) (line : Text) (found : Option ℕ) → i < length lines → line ≡ get_or lines i line → is_ok (tokens_of line) ≡ true → first_fault (suc i) (drop i lines) ≡ found → first_fault (suc (i + 1)) (drop (i + 1) lines) ≡ found
no_fault lines i line found lt is ok h =
    let n : i + 1 ≡ suc i = omega arith in
    rw n (sym (fault_at lines i line lt is ∙ ok_passes (tokens_of line) (suc i) _ ok) ∙ h)

pub a_fault : (lines : List Text) (i : ℕ) (line : Text) (found : Option ℕ) → i < length lines → line ≡ get_or lines i line → is_ok (tokens_of line) ≡ false → first_fault (suc i) (drop i lines) ≡ found → Some (i + 1) ≡ found
a_fault lines i line found lt is err h =
    let n : i + 1 ≡ suc i = omega arith in
    rw n (sym (fault_at lines i line lt is ∙ err_stops (tokens_of line) (suc i) _ err) ∙ h)
