-- Numbers with blanks alone between them are one constant.
use Rattle.std.specs.Prelude.{List, [], ◌∷◌, ◌++◌}
use Rattle.apl_tokens.specs.declared.token.Kind.{Kind}
use Rattle.apl_tokens.specs.declared.token.Kind.TheVariants.{Constant}
use Rattle.apl_tokens.specs.declared.token.Token.{Token}

-- a number joins the constant that follows it
abbrev pub join_kinds : Token → Kind → Token → Kind → List Token → List Token
join_kinds t (Constant ns) u (Constant ms) us = record { kind = Constant (ns ++ ms); at = t.at } ∷ us
join_kinds t _ u _ us = t ∷ u ∷ us

-- a token before others
abbrev pub join : Token → List Token → List Token
join t [] = t ∷ []
join t (u ∷ us) = join_kinds t t.kind u u.kind us

-- each run of constants is one
abbrev pub joined : List Token → List Token
joined [] = []
joined (t ∷ ts) = join t (joined ts)

-- the same from the left
abbrev pub push_joined : List Token → Token → List Token
push_joined [] t = t ∷ []
push_joined (u ∷ []) t = join u (t ∷ [])
push_joined (u ∷ v ∷ us) t = u ∷ push_joined (v ∷ us) t
