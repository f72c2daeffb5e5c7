-- How far a text has been read.
use Rattle.std.proofs.Common.{◌≡◌, ◌≤◌, ◌<◌, ℕ, List, [], ◌∷◌, ◌++◌, ◌+◌, Option, Some, None, length, refl, sym, ap, subst, ◌∙◌, arith}
use Rattle.apl_tokens.specs.declared.token.Token.{Token}
use Rattle.apl_tokens.specs.declared.place.Place.{Place}
use Rattle.apl_tokens.specs.declared.place.Place.TheVariants.{Start}
use Rattle.apl_tokens.specs.Spelling.{next_place, Step, Row}
use Rattle.apl_tokens.specs.Joined.{joined, push_joined}
use Rattle.apl_tokens.specs.Brackets.{unmatched}
use Rattle.apl_tokens.specs.Lines.{place_after, Joins, Spells, LeavesOpen}
use Rattle.apl_tokens.proofs.Joins.{joined_push}
use Rattle.apl_tokens.proofs.Pairs.{joined_pairs}
use Rattle.apl_tokens.proofs.Steps.{Row-push, place_after-push}

-- the pieces up to rest, joined in out; the next token's place
pub record Reads (text rest : List ℕ) (place : Place) (out : List Token) : Type 0 where
  pub pieces : List Token
  pub row : Row (length text + 1) Start pieces text rest
  pub place_is : place ≡ place_after Start pieces
  pub out_is : out ≡ joined pieces
  pub short : length rest ≤ length text

pub at_start : (text : List ℕ) → Reads text text Start []
at_start text = record { pieces = []; row = refl; place_is = refl; out_is = refl; short = omega arith }

pub one_more : (text rest after : List ℕ) (place next : Place) (out new : List Token) (t : Token) → Reads text rest place out → Step (length text + 1) place t rest after → length after < length rest → next ≡ next_place place t.kind → new ≡ push_joined out t → Reads text after next new
one_more text rest after place next out new t r step less is pushed = record {
  pieces = r.pieces ++ t ∷ [];
  row = Row-push _ Start r.pieces t text rest after r.row (subst (λ (p : Place). Step (length text + 1) p t rest after) r.place_is step);
  place_is = is ∙ ap (λ (p : Place). next_place p t.kind) r.place_is ∙ sym (place_after-push Start r.pieces t);
  out_is = pushed ∙ ap (λ (ts : List Token). push_joined ts t) r.out_is ∙ sym (joined_push r.pieces t);
  short = omega (arith, r.short);
}

-- by the partners of the joined tokens
pub balanced : (text : List ℕ) (ts : List Token) (o : Option ℕ) → length text ≤ 500 → Joins text ts → o ≡ unmatched [] ts → o ≡ None → Spells ts text
balanced text ts o short j is none = record {
  short = short;
  pieces = j.pieces;
  spelled = j.spelled;
  balanced = sym (joined_pairs [] j.pieces) ∙ ap (λ (us : List Token). unmatched [] us) (sym j.tokens_are) ∙ sym is ∙ none;
  tokens_are = j.tokens_are;
}

pub left_open : (text : List ℕ) (ts : List Token) (o : Option ℕ) (column : ℕ) → length text ≤ 500 → Joins text ts → o ≡ unmatched [] ts → o ≡ Some column → LeavesOpen text column
left_open text ts o column short j is some = record {
  short = short;
  pieces = j.pieces;
  spelled = j.spelled;
  unbalanced = sym (joined_pairs [] j.pieces) ∙ ap (λ (us : List Token). unmatched [] us) (sym j.tokens_are) ∙ sym is ∙ some;
}
