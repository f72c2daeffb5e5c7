-- The tokens of a text can be bound.
use Rattle.std.proofs.Common.{◌≡◌, ℕ, zero, suc, ◌≤◌, List, [], ◌∷◌, refl, arith}
use Rattle.std.specs.Prelude.{All}
use Rattle.std.specs.List.{flat_map}
use Rattle.apl_tokens.specs.declared.token.Kind.{Kind}
use Rattle.apl_tokens.specs.declared.token.Kind.TheVariants.{Constant, Text}
use Rattle.apl_tokens.specs.declared.token.Token.{Token}
use Rattle.apl_tokens.specs.Lines.{Ascend}
use Rattle.apl_tokens.specs.Tokens.{AreTokens, KindFits, AllKindsFit, IsShort, AllShort}
use Rattle.apl_translate.specs.Binding.{without_label, name_in, names_of, elements_in}

-- ---- columns

placed_at : (low : ℕ) (ts : List Token) → Ascend low ts → All (λ (t : Token). (1 ≤ t.at) × (t.at ≤ 500)) ts
placed_at low [] h k d lt = absurd (omega arith)
placed_at low (t ∷ ts) h zero d lt = let a = h.0 in let b = h.1 in (omega arith, b)
placed_at low (t ∷ ts) h (suc k) d lt = placed_at t.at ts h.2 k d (omega arith)

pub placed : (ts : List Token) → AreTokens ts → All (λ (t : Token). (1 ≤ t.at) × (t.at ≤ 500)) ts
placed ts a = placed_at 0 ts a.columns

-- ---- how many elements a token has

small_kind : (k : Kind) → KindFits 500 k → IsShort 500 k → elements_in k ≤ 1000000
small_kind (Constant ns) a b = let n = a.1 in omega arith
small_kind (Text text) a b = omega arith
small_kind k a b = omega arith

small_at : (ts : List Token) → AllKindsFit 500 ts → AllShort 500 ts → All (λ (t : Token). elements_in t.kind ≤ 1000000) ts
small_at [] a b k d lt = absurd (omega arith)
small_at (t ∷ ts) a b zero d lt = small_kind t.kind a.0 b.0
small_at (t ∷ ts) a b (suc k) d lt = small_at ts a.1 b.1 k d (omega arith)

pub small : (ts : List Token) → AreTokens ts → All (λ (t : Token). elements_in t.kind ≤ 1000000) ts
small ts a = small_at ts a.constants a.texts

-- ---- the classes of names

pub names_are : (ts : List Token) → flat_map (λ (t : Token). name_in t.kind) (without_label ts) ≡ names_of ts
unfolding names_of
names_are ts = refl
