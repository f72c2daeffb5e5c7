-- The plain text, as a loop writes it.
use Rattle.std.proofs.Common.{◌≡◌, ℕ, ◌+◌, ◌-◌, ◌<◌, ◌≤◌, Bool, ◌&&◌, ◌==◌, List, [], ◌++◌, length, drop, get_or, replicate, refl, sym, ◌∙◌, append_assoc, arith}
use Rattle.std.proofs.lemmas.List.{append-nil, nil_from_length, length-drop, length-append, length-replicate}
use Rattle.apl_tokens.specs.declared.token.Token.{Token}
use Rattle.apl_tokens.specs.Plain.{plain_word, is_any_name, behind_gap, plain_behind}
use Rattle.apl_tokens.proofs.Pairs.{at_token}

one_written : (old word : List ℕ) (g : ℕ) (later : ℕ → List ℕ) → ((old ++ replicate g 32) ++ word) ++ later (length ((old ++ replicate g 32) ++ word)) ≡ old ++ behind_gap (length old) g word later
one_written old word g later =
    let len : length ((old ++ replicate g 32) ++ word) ≡ length old + g + length word = omega (arith, length-append (old ++ replicate g 32) word, length-append old (replicate g 32), length-replicate {A = ℕ} g 32) in
    rw (len, append_assoc (old ++ replicate g 32) word (later (length old + g + length word)), append_assoc old (replicate g 32) (word ++ later (length old + g + length word))) refl

pub one_more : (old blank new total : List ℕ) (named after : Bool) (ts : List Token) (i g : ℕ) (t : Token) → i < length ts → t ≡ get_or ts i t → g ≡ t.at - 1 - length old → after ≡ (named && (g == 0))
    → blank ≡ old ++ replicate g 32 → new ≡ blank ++ plain_word after t.kind → old ++ plain_behind (length old) named (drop i ts) ≡ total → new ++ plain_behind (length new) (is_any_name t.kind) (drop (i + 1) ts) ≡ total
unfolding plain_behind
one_more old blank new total named after ts i g t lt e gap is blanks word so_far =
    let here : old ++ plain_behind (length old) named (drop i ts) ≡ old ++ behind_gap (length old) g (plain_word after t.kind) (λ n. plain_behind n (is_any_name t.kind) (drop (i + 1) ts)) = rw (at_token ts i t lt e, is, gap) refl in
    rw (word, blanks) (one_written old (plain_word after t.kind) g (λ n. plain_behind n (is_any_name t.kind) (drop (i + 1) ts)) ∙ sym here ∙ so_far)

pub at_end : (text total : List ℕ) (named : Bool) (ts : List Token) (i : ℕ) → length ts ≤ i → text ++ plain_behind (length text) named (drop i ts) ≡ total → text ≡ total
unfolding plain_behind
at_end text total named ts i le so_far =
    let none : drop i ts ≡ [] = nil_from_length _ (omega (arith, length-drop i ts)) in
    sym (append-nil text) ∙ rw none at so_far
