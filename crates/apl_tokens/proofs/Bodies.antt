-- The rest of a text, as a loop reads it.
use Rattle.std.proofs.Common.{◌≡◌, ℕ, ◌+◌, ◌<◌, Bool, true, false, cond, List, [], ◌∷◌, ◌++◌, length, drop, get_or, Option, Some, None, refl, sym, ◌∙◌, append_assoc, arith, add-one, drop-cons}
use Rattle.std.proofs.lemmas.List.{append-nil, nil_from_length, length-drop}
use Rattle.apl_tokens.specs.Characters.{class_of, is_quote}
use Rattle.apl_tokens.specs.Reading.{body_at, with_character, one_more}

-- what was read before, and what is still read
abbrev pub after_front : List ℕ → ℕ → Option (List ℕ × ℕ) → Option (List ℕ × ℕ)
after_front prefix n None = None
after_front prefix n (Some body) = Some (prefix ++ body.0, n + body.1)

-- one character more, by what was before it and what it is
cons_front : (prefix : List ℕ) (i c : ℕ) (read : Option (List ℕ × ℕ)) → after_front prefix i (with_character c read) ≡ after_front (prefix ++ c ∷ []) (i + 1) read
cons_front prefix i c None = refl
cons_front prefix i c (Some body) =
    let a : prefix ++ (c ∷ body.0) ≡ (prefix ++ c ∷ []) ++ body.0 = simp append_assoc in
    let n : i + (1 + body.1) ≡ (i + 1) + body.1 = omega arith in
    rw (a, n) refl

skip_front : (prefix : List ℕ) (i : ℕ) (read : Option (List ℕ × ℕ)) → after_front prefix i (one_more read) ≡ after_front prefix (i + 1) read
skip_front prefix i None = refl
skip_front prefix i (Some body) =
    let n : i + (1 + body.1) ≡ (i + 1) + body.1 = omega arith in
    rw n refl

pub at_cons : (rest : List ℕ) (i c : ℕ) → i < length rest → c ≡ get_or rest i c → drop i rest ≡ c ∷ drop (i + 1) rest
at_cons rest i c lt e = rw (add-one, drop-cons rest i c, ← e) refl

pub plain : (prefix rest : List ℕ) (i c : ℕ) (total : Option (List ℕ × ℕ)) → i < length rest → c ≡ get_or rest i c → is_quote (class_of c) ≡ false
    → after_front prefix i (body_at false (drop i rest)) ≡ total → after_front (prefix ++ c ∷ []) (i + 1) (body_at false (drop (i + 1) rest)) ≡ total
unfolding body_at
plain prefix rest i c total lt e q so_far =
    let here = at_cons rest i c lt e in
    let one : after_front prefix i (body_at false (drop i rest)) ≡ after_front (prefix ++ c ∷ []) (i + 1) (body_at false (drop (i + 1) rest)) = rw (here, q) (cons_front prefix i c _) in
    sym one ∙ so_far

pub opens : (prefix rest : List ℕ) (i c : ℕ) (total : Option (List ℕ × ℕ)) → i < length rest → c ≡ get_or rest i c → is_quote (class_of c) ≡ true
    → after_front prefix i (body_at false (drop i rest)) ≡ total → after_front prefix (i + 1) (body_at true (drop (i + 1) rest)) ≡ total
unfolding body_at
opens prefix rest i c total lt e q so_far =
    let here = at_cons rest i c lt e in
    let one : after_front prefix i (body_at false (drop i rest)) ≡ after_front prefix (i + 1) (body_at true (drop (i + 1) rest)) = rw (here, q) (skip_front prefix i _) in
    sym one ∙ so_far

pub doubles : (prefix rest : List ℕ) (i c : ℕ) (total : Option (List ℕ × ℕ)) → i < length rest → c ≡ get_or rest i c → is_quote (class_of c) ≡ true
    → after_front prefix i (body_at true (drop i rest)) ≡ total → after_front (prefix ++ c ∷ []) (i + 1) (body_at false (drop (i + 1) rest)) ≡ total
unfolding body_at
doubles prefix rest i c total lt e q so_far =
    let here = at_cons rest i c lt e in
    let one : after_front prefix i (body_at true (drop i rest)) ≡ after_front (prefix ++ c ∷ []) (i + 1) (body_at false (drop (i + 1) rest)) = rw (here, q) (cons_front prefix i c _) in
    sym one ∙ so_far

pub closes : (prefix rest : List ℕ) (i c : ℕ) (total : Option (List ℕ × ℕ)) → i < length rest → c ≡ get_or rest i c → is_quote (class_of c) ≡ false
    → after_front prefix i (body_at true (drop i rest)) ≡ total → total ≡ Some (prefix, i)
unfolding body_at
closes prefix rest i c total lt e q so_far =
    let here = at_cons rest i c lt e in
    let nil = append-nil prefix in
    let zero : i + 0 ≡ i = omega arith in
    let one : after_front prefix i (body_at true (drop i rest)) ≡ Some (prefix, i) = rw (here, q, nil, zero) refl in
    sym so_far ∙ one

pub ends : (prefix rest : List ℕ) (i : ℕ) (quoted : Bool) (total : Option (List ℕ × ℕ)) → i ≡ length rest
    → after_front prefix i (body_at quoted (drop i rest)) ≡ total → total ≡ cond quoted (Some (prefix, i)) None
unfolding body_at
ends prefix rest i true total e so_far =
    let here : drop i rest ≡ [] = nil_from_length _ (omega (arith, length-drop i rest)) in
    let nil = append-nil prefix in
    let zero : i + 0 ≡ i = omega arith in
    let one : after_front prefix i (body_at true (drop i rest)) ≡ Some (prefix, i) = rw (here, nil, zero) refl in
    sym so_far ∙ one
ends prefix rest i false total e so_far =
    let here : drop i rest ≡ [] = nil_from_length _ (omega (arith, length-drop i rest)) in
    let one : after_front prefix i (body_at false (drop i rest)) ≡ None = rw here refl in
    sym so_far ∙ one
