-- Constants joined from either side.
use Rattle.std.proofs.Common.{◌≡◌, ℕ, List, [], ◌∷◌, ◌++◌, ℤ, refl, sym, ap, ◌∙◌, append_assoc}
use Rattle.apl_tokens.specs.declared.token.Kind.{Kind}
use Rattle.apl_tokens.specs.declared.token.Kind.TheVariants.{Constant}
use Rattle.apl_tokens.specs.declared.token.Token.{Token}
use Rattle.apl_tokens.specs.Joined.{join, joined, push_joined}

-- a token is its fields
abbrev token : Kind → ℕ → Token
token k n = record { kind = k; at = n }

-- what is pushed goes to the last
pub push_last : (prefix : List Token) (u t : Token) → push_joined (prefix ++ u ∷ []) t ≡ prefix ++ join u (t ∷ [])
push_last [] u t = refl
push_last (v ∷ []) u t = refl
push_last (v ∷ w ∷ prefix) u t = ap (λ (ts : List Token). v ∷ ts) (push_last (w ∷ prefix) u t)

pub constants : (ns ms : List ℤ) (m n : ℕ) → join (token (Constant ns) m) (token (Constant ms) n ∷ []) ≡ token (Constant (ns ++ ms)) m ∷ []
constants ns ms m n = refl

pub apart_first : (k : Kind) (m : ℕ) (t : Token) → ((ns : List ℤ) → k ≡ Constant ns → ⊥) → join (token k m) (t ∷ []) ≡ token k m ∷ t ∷ []
apart_first (Constant ns) m t h = absurd (h ns refl)
apart_first _ m t h = refl

pub apart_second : (k l : Kind) (m n : ℕ) → ((ns : List ℤ) → l ≡ Constant ns → ⊥) → join (token k m) (token l n ∷ []) ≡ token k m ∷ token l n ∷ []
apart_second (Constant ns) (Constant ms) m n h = absurd (h ms refl)
apart_second (Constant ns) _ m n h = refl
apart_second _ l m n h = refl

-- one token before a row that is joined
push_one : (k l o : Kind) (m n p : ℕ) → join (token k m) (join (token l n) (token o p ∷ [])) ≡ push_joined (join (token k m) (token l n ∷ [])) (token o p)
push_one (Constant a) (Constant b) (Constant c) m n p = ap (λ (ns : List ℤ). token (Constant ns) m ∷ []) (sym (append_assoc a b c))
push_one _ (Constant b) (Constant c) m n p = refl
push_one _ _ _ m n p = refl

push_more : (k l : Kind) (m n : ℕ) (v : Token) (vs : List Token) (t : Token) → join (token k m) (token l n ∷ push_joined (v ∷ vs) t) ≡ push_joined (join (token k m) (token l n ∷ v ∷ vs)) t
push_more (Constant a) (Constant b) m n v vs t = refl
push_more _ _ m n v vs t = refl

join_push : (p : Token) (us : List Token) (t : Token) → join p (push_joined us t) ≡ push_joined (join p us) t
join_push p [] t = refl
join_push p (u ∷ []) t = push_one p.kind u.kind t.kind p.at u.at t.at
join_push p (u ∷ v ∷ vs) t = push_more p.kind u.kind p.at u.at v vs t

pub joined_push : (ps : List Token) (t : Token) → joined (ps ++ t ∷ []) ≡ push_joined (joined ps) t
joined_push [] t = refl
joined_push (p ∷ ps) t = ap (λ (ts : List Token). join p ts) (joined_push ps t) ∙ join_push p (joined ps) t

-- what a push leaves
two : (prefix : List Token) (u t : Token) → (prefix ++ u ∷ []) ++ t ∷ [] ≡ prefix ++ (u ∷ t ∷ [])
two prefix u t = simp append_assoc

-- a token that is no constant stays apart
push_apart : (old : List Token) (k : Kind) (n : ℕ) → ((ns : List ℤ) → k ≡ Constant ns → ⊥) → push_joined old (token k n) ≡ old ++ token k n ∷ []
push_apart [] k n apart = refl
push_apart (u ∷ []) k n apart = apart_second u.kind k u.at n apart
push_apart (u ∷ v ∷ us) k n apart = ap (λ (ts : List Token). u ∷ ts) (push_apart (v ∷ us) k n apart)

pub pushed_apart : (old new : List Token) (k : Kind) (n : ℕ) → new ≡ old ++ token k n ∷ [] → ((ns : List ℤ) → k ≡ Constant ns → ⊥) → new ≡ push_joined old (token k n)
pushed_apart old new k n is apart = is ∙ sym (push_apart old k n apart)

pub pushed_first : (old prefix one both : List Token) (k : Kind) (m : ℕ) (t : Token) → old ≡ prefix ++ token k m ∷ [] → one ≡ prefix ++ token k m ∷ [] → both ≡ one ++ t ∷ [] → ((ns : List ℤ) → k ≡ Constant ns → ⊥) → both ≡ push_joined old t
pushed_first old prefix one both k m t was first second apart =
    second ∙ ap (λ (ts : List Token). ts ++ t ∷ []) first ∙ two prefix (token k m) t ∙ ap (λ (ts : List Token). prefix ++ ts) (sym (apart_first k m t apart)) ∙ sym (push_last prefix (token k m) t) ∙ ap (λ (ts : List Token). push_joined ts t) (sym was)

pub pushed_constant : (old prefix new : List Token) (k : Kind) (ns ms all : List ℤ) (m n : ℕ) → old ≡ prefix ++ token k m ∷ [] → k ≡ Constant ns → all ≡ ns ++ ms → new ≡ prefix ++ token (Constant all) m ∷ [] → new ≡ push_joined old (token (Constant ms) n)
pushed_constant old prefix new k ns ms all m n was first sum last = rw (last, sum, was, first) (sym (push_last prefix (token (Constant ns) m) (token (Constant ms) n)))
