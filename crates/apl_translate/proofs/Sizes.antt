-- The tokens of a text are fit to be bound.
use Rattle.std.proofs.Common.{ℕ, ◌≤◌, List, [], ◌∷◌, arith}
use Rattle.std.specs.List.{All}
use Rattle.std.proofs.lemmas.List.Elements.{All-nil, All-cons}
use Rattle.apl_tokens.specs.declared.token.Kind.{Kind}
use Rattle.apl_tokens.specs.declared.token.Kind.TheVariants.{Constant, Text}
use Rattle.apl_tokens.specs.declared.token.Token.{Token}
use Rattle.apl_tokens.specs.Tokens.{KindFits, AllKindsFit, IsShort, AllShort, AreTokens}
use Rattle.apl_tokens.specs.Lines.{Ascend}
use Rattle.apl_translate.specs.Binding.{elements_in}

kind_small : (kind : Kind) → KindFits 500 kind → IsShort 500 kind → elements_in kind ≤ 1000000
kind_small (Constant numbers) h s = omega (arith, h.1)
kind_small (Text text) h s = omega (arith, s)
kind_small kind h s = omega arith

each_small : (ts : List Token) → AllKindsFit 500 ts → AllShort 500 ts → All (λ (t : Token). elements_in t.kind ≤ 1000000) ts
each_small [] h s = All-nil (λ (t : Token). elements_in t.kind ≤ 1000000)
each_small (t ∷ ts) h s = All-cons (λ (t : Token). elements_in t.kind ≤ 1000000) t ts (kind_small t.kind h.0 s.0) (each_small ts h.1 s.1)

each_placed : (low : ℕ) (ts : List Token) → Ascend low ts → All (λ (t : Token). (1 ≤ t.at) × (t.at ≤ 500)) ts
each_placed low [] h = All-nil (λ (t : Token). (1 ≤ t.at) × (t.at ≤ 500))
each_placed low (t ∷ ts) h = All-cons (λ (t : Token). (1 ≤ t.at) × (t.at ≤ 500)) t ts (omega (arith, h.0), h.1) (each_placed t.at ts h.2)

-- their constants and texts are within the limit of an array
pub tokens_small : (ts : List Token) → AreTokens ts → All (λ (t : Token). elements_in t.kind ≤ 1000000) ts
tokens_small ts h = each_small ts h.constants h.texts

-- they have columns of a line
pub tokens_placed : (ts : List Token) → AreTokens ts → All (λ (t : Token). (1 ≤ t.at) × (t.at ≤ 500)) ts
tokens_placed ts h = each_placed 0 ts h.columns
