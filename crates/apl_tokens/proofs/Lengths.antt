-- How long the rest of a text is, as a loop counts it.
use Rattle.std.proofs.Common.{◌≡◌, ℕ, ◌+◌, ◌<◌, ◌≤◌, Bool, true, false, cond, List, [], ◌∷◌, length, drop, get_or, Option, Some, None, refl, sym, ap, ◌∙◌, arith}
use Rattle.std.specs.Prelude.{option_map, nat_le}
use Rattle.std.proofs.lemmas.Bool.Decides.{nat_tests}
use Rattle.apl_tokens.specs.declared.brackets.Side.TheVariants.{Neither}
use Rattle.apl_tokens.specs.declared.class.Class.TheVariants.{Letter}
use Rattle.apl_tokens.specs.declared.reading.Run.TheVariants as run
use Rattle.std.proofs.lemmas.List.{nil_from_length, length-drop}
use Rattle.apl_tokens.specs.Characters.{class_of, is_quote}
use Rattle.apl_tokens.specs.Reading.{run_len, name_of_len, name_at, body_at, with_character, one_more}
use Rattle.apl_tokens.specs.Measures.{measured, body_len}
use Rattle.apl_tokens.proofs.Runs.{letter_more}
use Rattle.apl_tokens.proofs.Bodies.{at_cons}

-- n characters before what is still read
abbrev pub behind : ℕ → Option (List ℕ × ℕ) → Option ℕ
behind n read = option_map (λ m. n + m) (body_len read)

with_one : (i c : ℕ) (read : Option (List ℕ × ℕ)) → behind i (with_character c read) ≡ behind (i + 1) read
with_one i c None = refl
with_one i c (Some body) = let n : i + (1 + body.1) ≡ (i + 1) + body.1 = omega arith in rw n refl

skip_one : (i : ℕ) (read : Option (List ℕ × ℕ)) → behind i (one_more read) ≡ behind (i + 1) read
skip_one i None = refl
skip_one i (Some body) = let n : i + (1 + body.1) ≡ (i + 1) + body.1 = omega arith in rw n refl

pub plain : (rest : List ℕ) (i c : ℕ) (total : Option ℕ) → i < length rest → c ≡ get_or rest i c → is_quote (class_of c) ≡ false
    → behind i (body_at false (drop i rest)) ≡ total → behind (i + 1) (body_at false (drop (i + 1) rest)) ≡ total
unfolding body_at
plain rest i c total lt e q so_far =
    let here = at_cons rest i c lt e in
    let one : behind i (body_at false (drop i rest)) ≡ behind (i + 1) (body_at false (drop (i + 1) rest)) = rw (here, q) (with_one i c _) in
    sym one ∙ so_far

pub opens : (rest : List ℕ) (i c : ℕ) (total : Option ℕ) → i < length rest → c ≡ get_or rest i c → is_quote (class_of c) ≡ true
    → behind i (body_at false (drop i rest)) ≡ total → behind (i + 1) (body_at true (drop (i + 1) rest)) ≡ total
unfolding body_at
opens rest i c total lt e q so_far =
    let here = at_cons rest i c lt e in
    let one : behind i (body_at false (drop i rest)) ≡ behind (i + 1) (body_at true (drop (i + 1) rest)) = rw (here, q) (skip_one i _) in
    sym one ∙ so_far

pub doubles : (rest : List ℕ) (i c : ℕ) (total : Option ℕ) → i < length rest → c ≡ get_or rest i c → is_quote (class_of c) ≡ true
    → behind i (body_at true (drop i rest)) ≡ total → behind (i + 1) (body_at false (drop (i + 1) rest)) ≡ total
unfolding body_at
doubles rest i c total lt e q so_far =
    let here = at_cons rest i c lt e in
    let one : behind i (body_at true (drop i rest)) ≡ behind (i + 1) (body_at false (drop (i + 1) rest)) = rw (here, q) (with_one i c _) in
    sym one ∙ so_far

pub closes : (rest : List ℕ) (i c : ℕ) (total : Option ℕ) → i < length rest → c ≡ get_or rest i c → is_quote (class_of c) ≡ false
    → behind i (body_at true (drop i rest)) ≡ total → total ≡ Some i
unfolding body_at
closes rest i c total lt e q so_far =
    let here = at_cons rest i c lt e in
    let zero : i + 0 ≡ i = omega arith in
    let one : behind i (body_at true (drop i rest)) ≡ Some i = rw (here, q, zero) refl in
    sym so_far ∙ one

pub ends : (rest : List ℕ) (i : ℕ) (quoted : Bool) (total : Option ℕ) → i ≡ length rest
    → behind i (body_at quoted (drop i rest)) ≡ total → total ≡ cond quoted (Some i) None
unfolding body_at
ends rest i true total e so_far =
    let here : drop i rest ≡ [] = nil_from_length _ (omega (arith, length-drop i rest)) in
    let zero : i + 0 ≡ i = omega arith in
    let one : behind i (body_at true (drop i rest)) ≡ Some i = rw (here, zero) refl in
    sym so_far ∙ one
ends rest i false total e so_far =
    let here : drop i rest ≡ [] = nil_from_length _ (omega (arith, length-drop i rest)) in
    let one : behind i (body_at false (drop i rest)) ≡ None = rw here refl in
    sym so_far ∙ one

-- a name by the length of the rest of it
name_case : (rest : List ℕ) (m : ℕ) (b : Bool) → nat_le m 32 ≡ b → measured (name_of_len rest m) ≡ cond b (Some (record { side = Neither; is_name = true; len = m })) None
name_case rest m true e = rw e refl
name_case rest m false e = rw e refl

is_more : (m : ℕ) → 32 < m → nat_le m 32 ≡ false
is_more m h = grind (arith, nat_tests)

is_within : (m : ℕ) → m ≤ 32 → nat_le m 32 ≡ true
is_within m h = grind (arith, nat_tests)

name_from : (c : ℕ) (after : List ℕ) (n : ℕ) → class_of c ≡ Letter → n ≡ run_len run.Name after → name_at (c ∷ after) ≡ name_of_len (c ∷ after) (1 + n)
unfolding name_at
name_from c after n letter is = ap (name_of_len (c ∷ after)) (letter_more c after letter ∙ ap (λ k. 1 + k) (sym is))

pub long_name : (c : ℕ) (after : List ℕ) (n : ℕ) → class_of c ≡ Letter → n ≡ run_len run.Name after → 32 < 1 + n → None ≡ measured (name_at (c ∷ after))
long_name c after n letter is more = sym (ap measured (name_from c after n letter is) ∙ name_case (c ∷ after) (1 + n) false (is_more (1 + n) more))

pub short_name : (c : ℕ) (after : List ℕ) (n : ℕ) → class_of c ≡ Letter → n ≡ run_len run.Name after → 1 + n ≤ 32 → Some (record { side = Neither; is_name = true; len = 1 + n }) ≡ measured (name_at (c ∷ after))
short_name c after n letter is within = sym (ap measured (name_from c after n letter is) ∙ name_case (c ∷ after) (1 + n) true (is_within (1 + n) within))
