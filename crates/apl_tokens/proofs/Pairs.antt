-- One token of a row of brackets.
use Rattle.std.proofs.Common.{◌≡◌, ℕ, ◌+◌, ◌<◌, ◌≤◌, true, false, List, [], ◌∷◌, ◌++◌, length, drop, get_or, Option, Some, refl, sym, ap, ◌∙◌, arith, add-one, drop-cons, cond}
use Rattle.std.specs.Prelude.{reverse}
use Rattle.std.proofs.lemmas.List.{reverse-append, nil_from_length, length-drop}
use Rattle.apl_tokens.specs.declared.token.Kind.{Kind}
use Rattle.apl_tokens.specs.declared.token.Kind.TheVariants.{Constant}
use Rattle.apl_tokens.specs.declared.token.Token.{Token}
use Rattle.apl_tokens.specs.Joined.{join_kinds, join, joined}
use Rattle.apl_tokens.specs.declared.brackets.Side.{Side}
use Rattle.apl_tokens.specs.declared.brackets.Side.TheVariants.{Opens, Closes, Neither}
use Rattle.apl_tokens.specs.declared.brackets.Bracket.{Bracket}
use Rattle.apl_tokens.specs.Brackets.{same_bracket, kind_side, Open, innermost, after_side, unmatched}

pub at_token : (ts : List Token) (i : ℕ) (t : Token) → i < length ts → t ≡ get_or ts i t → drop i ts ≡ t ∷ drop (i + 1) ts
at_token ts i t lt e = rw (add-one, drop-cons ts i t, ← e) refl

-- the innermost is kept last
pub last_first : (items new : Open) (x : Bracket × ℕ) → items ≡ new ++ x ∷ [] → reverse items ≡ x ∷ reverse new
last_first items new x e = rw (e, reverse-append new (x ∷ [])) refl

turn : (stack : Open) (ts : List Token) (i : ℕ) (t : Token) (s : Side) → i < length ts → t ≡ get_or ts i t → s ≡ kind_side t.kind
    → unmatched stack (drop i ts) ≡ after_side s t.at stack (λ o. unmatched o (drop (i + 1) ts))
unfolding unmatched
turn stack ts i t s lt e is = rw (at_token ts i t lt e, is) refl

pub passes : (items : Open) (ts : List Token) (i : ℕ) (t : Token) (total : Option ℕ) → i < length ts → t ≡ get_or ts i t → Neither ≡ kind_side t.kind
    → unmatched (reverse items) (drop i ts) ≡ total → unmatched (reverse items) (drop (i + 1) ts) ≡ total
passes items ts i t total lt e is h = sym (turn (reverse items) ts i t Neither lt e is) ∙ h

pub opens : (items new : Open) (ts : List Token) (i : ℕ) (b : Bracket) (t : Token) (total : Option ℕ) → i < length ts → t ≡ get_or ts i t → Opens b ≡ kind_side t.kind → new ≡ items ++ (b, t.at) ∷ []
    → unmatched (reverse items) (drop i ts) ≡ total → unmatched (reverse new) (drop (i + 1) ts) ≡ total
opens items new ts i b t total lt e is grown h = rw (last_first new items (b, t.at) grown) (sym (turn (reverse items) ts i t (Opens b) lt e is) ∙ h)

pub alone : (items : Open) (ts : List Token) (i : ℕ) (b : Bracket) (t : Token) (total : Option ℕ) → i < length ts → t ≡ get_or ts i t → Closes b ≡ kind_side t.kind → items ≡ []
    → unmatched (reverse items) (drop i ts) ≡ total → Some t.at ≡ total
alone items ts i b t total lt e is none h = let turned = turn (reverse items) ts i t (Closes b) lt e is in sym (rw none at turned) ∙ rw none at h

pub differs : (items new : Open) (ts : List Token) (i : ℕ) (b closer : Bracket) (column : ℕ) (t : Token) (total : Option ℕ) → i < length ts → t ≡ get_or ts i t → Closes b ≡ kind_side t.kind → items ≡ new ++ (closer, column) ∷ [] → same_bracket b closer ≡ false
    → unmatched (reverse items) (drop i ts) ≡ total → Some t.at ≡ total
differs items new ts i b closer column t total lt e is last ne h =
    let stack = last_first items new (closer, column) last in
    let turned : unmatched ((closer, column) ∷ reverse new) (drop i ts) ≡ Some t.at = turn ((closer, column) ∷ reverse new) ts i t (Closes b) lt e is ∙ rw ne refl in
    sym turned ∙ rw stack at h

pub closes : (items new : Open) (ts : List Token) (i : ℕ) (b closer : Bracket) (column : ℕ) (t : Token) (total : Option ℕ) → i < length ts → t ≡ get_or ts i t → Closes b ≡ kind_side t.kind → items ≡ new ++ (closer, column) ∷ [] → same_bracket b closer ≡ true
    → unmatched (reverse items) (drop i ts) ≡ total → unmatched (reverse new) (drop (i + 1) ts) ≡ total
closes items new ts i b closer column t total lt e is last same h =
    let stack = last_first items new (closer, column) last in
    let turned : unmatched ((closer, column) ∷ reverse new) (drop i ts) ≡ unmatched (reverse new) (drop (i + 1) ts) = turn ((closer, column) ∷ reverse new) ts i t (Closes b) lt e is ∙ rw same refl in
    sym turned ∙ rw stack at h

pub at_end : (stack : Open) (ts : List Token) (i : ℕ) (total : Option ℕ) → length ts ≤ i → unmatched stack (drop i ts) ≡ total → innermost stack ≡ total
unfolding unmatched
at_end stack ts i total le h =
    let none : drop i ts ≡ [] = nil_from_length _ (omega (arith, length-drop i ts)) in
    rw none at h

-- constants are no brackets: joined or not, the same bracket has no partner
join_kinds_pairs : (stack : Open) (t u : Token) (k l : Kind) (us : List Token) → t.kind ≡ k → u.kind ≡ l → unmatched stack (join_kinds t k u l us) ≡ unmatched stack (t ∷ u ∷ us)
unfolding unmatched
join_kinds_pairs stack t u (Constant ns) (Constant ms) us p q = rw (p, q) refl
join_kinds_pairs stack t u (Constant ns) _ us p q = refl
join_kinds_pairs stack t u _ l us p q = refl

join_pairs : (stack : Open) (t : Token) (us : List Token) → unmatched stack (join t us) ≡ unmatched stack (t ∷ us)
join_pairs stack t [] = refl
join_pairs stack t (u ∷ us) = join_kinds_pairs stack t u t.kind u.kind us refl refl

-- what comes after a token, by what comes after it
after_same : (side : Side) (column : ℕ) (stack : Open) (f g : Open → Option ℕ) → ((o : Open) → f o ≡ g o) → after_side side column stack f ≡ after_side side column stack g
after_same Neither column stack f g same = same stack
after_same (Opens b) column stack f g same = same ((b, column) ∷ stack)
after_same (Closes b) column [] f g same = refl
after_same (Closes b) column (o ∷ stack) f g same = ap (λ (x : Option ℕ). cond (same_bracket b o.0) x (Some column)) (same stack)

pub joined_pairs : (stack : Open) (ts : List Token) → unmatched stack (joined ts) ≡ unmatched stack ts
unfolding unmatched
joined_pairs stack [] = refl
joined_pairs stack (t ∷ ts) = join_pairs stack t (joined ts) ∙ after_same (kind_side t.kind) t.at stack (λ o. unmatched o (joined ts)) (λ o. unmatched o ts) (λ o. joined_pairs o ts)
