-- The tokens of a text that are names are spelled as names.
use Rattle.std.proofs.Common.{ℕ, List, [], ◌∷◌, sym, subst}
use Rattle.apl_tokens.specs.declared.place.Place.{Place}
use Rattle.apl_tokens.specs.declared.token.Kind.{Kind}
use Rattle.apl_tokens.specs.declared.token.Kind.TheVariants.{Constant, Name}
use Rattle.apl_tokens.specs.declared.token.Token.{Token}
use Rattle.apl_tokens.specs.Spelling.{IsSpelled, next_place, Row}
use Rattle.apl_tokens.specs.Joined.{join_kinds, join, joined}
use Rattle.apl_tokens.specs.Lines.{Spells}
use Rattle.apl_defn.specs.Headers.{kinds}
use Rattle.apl_defn.proofs.Heads.{IsNamed, AreNamed}

spelled_named : (k : Kind) (word : List ℕ) → IsSpelled k word → IsNamed k
spelled_named (Name n) word h = h.1
spelled_named k word h = tt

row_named : (end : ℕ) (place : Place) (ts : List Token) (text rest : List ℕ) → Row end place ts text rest → AreNamed (kinds ts)
row_named end place [] text rest h = tt
row_named end place (t ∷ ts) text rest h = (spelled_named t.kind h.1.word h.1.spelled, row_named end (next_place place t.kind) ts h.0 rest h.2)

join_case : (t : Token) (k : Kind) (u : Token) (j : Kind) (us : List Token) → IsNamed t.kind → IsNamed u.kind → AreNamed (kinds us) → AreNamed (kinds (join_kinds t k u j us))
join_case t (Constant ns) u (Constant ms) us p q r = (tt, r)
join_case t k u j us p q r = (p, (q, r))

join_named : (t : Token) (us : List Token) → IsNamed t.kind → AreNamed (kinds us) → AreNamed (kinds (join t us))
join_named t [] p r = (p, tt)
join_named t (u ∷ us) p r = join_case t t.kind u u.kind us p r.0 r.1

joined_named : (ts : List Token) → AreNamed (kinds ts) → AreNamed (kinds (joined ts))
joined_named [] h = tt
joined_named (t ∷ ts) h = join_named t (joined ts) h.0 (joined_named ts h.1)

pub tokens_named : (ts : List Token) (text : List ℕ) → Spells ts text → AreNamed (kinds ts)
tokens_named ts text h = subst (λ (us : List Token). AreNamed (kinds us)) (sym h.tokens_are) (joined_named h.pieces (row_named _ _ h.pieces text h.spelled.rest h.spelled.row))
