-- A text has one list of tokens, or one fault.
use Rattle.std.specs.Prelude.{Result, Ok, Err, IfErr}
use Rattle.std.proofs.Common.{◌≡◌, ◌≢◌, ℕ, ◌<◌, ◌≤◌, List, [], length, Option, Some, None, refl, sym, ap, ◌∙◌, arith}
use Rattle.apl_tokens.specs.declared.token.Token.{Token}
use Rattle.apl_tokens.specs.declared.line.TokenError.{TokenError}
use Rattle.apl_tokens.specs.declared.line.TokenError.TheVariants.{Quote, Unbalanced, Stray, Limit, TooLong, Memory}
use Rattle.apl_tokens.specs.Brackets.{unmatched}
use Rattle.apl_tokens.specs.Joined.{joined}
use Rattle.apl_tokens.specs.Lines.{Breaks, Spells, LeavesOpen, IsFault}
use Rattle.apl_tokens.proofs.Unique.{one_pieces, pieces_or_break, one_break}

pub one_list : (text : List ℕ) (ts us : List Token) → Spells ts text → Spells us text → ts ≡ us
one_list text ts us p q = p.tokens_are ∙ ap joined (one_pieces text p.pieces q.pieces p.spelled q.spelled) ∙ sym q.tokens_are

-- the kinds of fault
data Sort (text : List ℕ) (e : TokenError) : Type 0 where
  long : 500 < length text → e ≡ TooLong 501 → Sort text e
  breaks : length text ≤ 500 → Breaks text e → e ≢ Memory → Sort text e
  leaves_open : (column : ℕ) → e ≡ Unbalanced column → LeavesOpen text column → Sort text e
  no_memory : e ≡ Memory → Sort text e

sort : (text : List ℕ) (e : TokenError) → IsFault text e → Sort text e
sort text (TooLong column) f = long f.0 (ap (λ (n : ℕ). TooLong n) f.1)
sort text (Unbalanced column) f = leaves_open column refl f
sort text Memory f = no_memory refl
sort text (Quote column) f = breaks f.0 f.1 (λ e. cc)
sort text (Stray column) f = breaks f.0 f.1 (λ e. cc)
sort text (Limit column) f = breaks f.0 f.1 (λ e. cc)

some_is : (m n : ℕ) → (o : Option ℕ) → o ≡ Some m → o ≡ Some n → m ≡ n
some_is m n o p q = cc

both : (text : List ℕ) (m n : ℕ) → LeavesOpen text m → LeavesOpen text n → m ≡ n
both text m n p q = some_is m n (unmatched [] p.pieces) p.unbalanced (ap (λ (ts : List Token). unmatched [] ts) (one_pieces text p.pieces q.pieces p.spelled q.spelled) ∙ q.unbalanced)

balanced_or_open : (text : List ℕ) (ts : List Token) (n : ℕ) → Spells ts text → LeavesOpen text n → ⊥
balanced_or_open text ts n p q =
    let same = ap (λ (us : List Token). unmatched [] us) (one_pieces text p.pieces q.pieces p.spelled q.spelled) in
    let none : None ≡ Some n = sym p.balanced ∙ same ∙ q.unbalanced in
    absurd cc

pub list_or_fault : (text : List ℕ) (ts : List Token) (e : TokenError) → Spells ts text → IsFault text e → e ≡ Memory
list_or_fault text ts e p f = elim (sort text e f) [
  | long past is ↦ absurd (omega (arith, p.short, past))
  | breaks short b ne ↦ absurd (pieces_or_break text p.pieces e p.spelled b ne)
  | leaves_open column is q ↦ absurd (balanced_or_open text ts column p q)
  | no_memory is ↦ is
]

fault_once : (text : List ℕ) (d e : TokenError) → d ≢ Memory → e ≢ Memory → Sort text d → Sort text e → d ≡ e
fault_once text d e nd ne (no_memory is) g = absurd (nd is)
fault_once text d e nd ne (long p is) (no_memory is') = absurd (ne is')
fault_once text d e nd ne (breaks s b n) (no_memory is') = absurd (ne is')
fault_once text d e nd ne (leaves_open m is p) (no_memory is') = absurd (ne is')
fault_once text d e nd ne (long p is) (long q is') = is ∙ sym is'
fault_once text d e nd ne (long p is) (breaks s b n) = absurd (omega arith)
fault_once text d e nd ne (long p is) (leaves_open m is' q) = absurd (omega (arith, q.short))
fault_once text d e nd ne (breaks s b n) (long p is) = absurd (omega arith)
fault_once text d e nd ne (breaks s b n) (breaks s' b' n') = one_break text d e b b' nd ne
fault_once text d e nd ne (breaks s b n) (leaves_open m is q) = absurd (pieces_or_break text q.pieces d q.spelled b nd)
fault_once text d e nd ne (leaves_open m is p) (long q is') = absurd (omega (arith, p.short))
fault_once text d e nd ne (leaves_open m is p) (breaks s b n) = absurd (pieces_or_break text p.pieces e p.spelled b ne)
fault_once text d e nd ne (leaves_open m is p) (leaves_open n is' q) = is ∙ ap (λ (k : ℕ). Unbalanced k) (both text m n p q) ∙ sym is'

pub one_fault : (text : List ℕ) (d e : TokenError) → IsFault text d → IsFault text e → d ≢ Memory → e ≢ Memory → d ≡ e
one_fault text d e f g nd ne = fault_once text d e nd ne (sort text d f) (sort text e g)

-- what fails at a text that tokens spell ran out of memory
pub only_memory : {A : Type 0} (text : List ℕ) (answer : Result A TokenError) → IfErr answer (λ e. IsFault text e) → (ts : List Token) → Spells ts text → IfErr answer (λ e. e ≡ Memory)
only_memory text (Ok v) h ts p = tt
only_memory text (Err e) h ts p = list_or_fault text ts e p h
