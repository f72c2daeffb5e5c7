-- Where tokens spell some text, they spell the plain one.
use Rattle.std.proofs.Common.{◌≡◌, ℕ, zero, suc, ◌+◌, ◌<◌, ◌≤◌, Bool, true, false, ◌&&◌, ◌==◌, List, [], ◌∷◌, ◌++◌, length, replicate, refl, sym, ap, subst, ◌∙◌, arith}
use Rattle.std.specs.Prelude.{ℤ, pos, negsuc}
use Rattle.std.proofs.lemmas.Bool.{eqb-true}
use Rattle.std.proofs.lemmas.List.{length-append, length-replicate, append-nil}
use Rattle.apl_symbols.specs.declared.symbol.Symbol.TheVariants.{Dot}
use Rattle.apl_tokens.specs.declared.class.Class.TheVariants as class
use Rattle.apl_tokens.specs.declared.token.Kind.{Kind}
use Rattle.apl_tokens.specs.declared.token.Kind.TheVariants as kind
use Rattle.apl_tokens.specs.declared.token.Token.{Token}
use Rattle.apl_tokens.specs.declared.place.Place.{Place}
use Rattle.apl_tokens.specs.declared.place.Place.TheVariants.{Start}
use Rattle.apl_tokens.specs.Characters.{is_in_name}
use Rattle.apl_tokens.specs.Spelling.{class_at, all_blank, IsSpelled, Ends, next_place, Step, Row}
use Rattle.apl_tokens.specs.Joined.{joined}
use Rattle.apl_tokens.specs.Brackets.{unmatched}
use Rattle.apl_tokens.specs.Lines.{Spells}
use Rattle.apl_tokens.specs.Plain.{plain_word, is_any_name, plain}
use Rattle.apl_tokens.proofs.Classes.{and_left, and_right, minus_class}
use Rattle.apl_tokens.proofs.Columns.{word_some}
use Rattle.apl_tokens.proofs.Pairs.{joined_pairs}
use Rattle.apl_tokens.proofs.Words.{number_plain, number_first}
use Rattle.apl_tokens.proofs.Ends.{blank_class, ends_nil, ends_blank, ends_same, ends_constant, ends_number_too, first_same}
use Rattle.apl_tokens.proofs.Plainly.{is_number, gap_of, at_of, word_in, row_text, placed, Single, Singles, text_by_pieces, placed_joined}

piece_single : (k : Kind) (word : List ℕ) → IsSpelled k word → Single k
piece_single (kind.Constant []) word h = h
piece_single (kind.Constant (n ∷ [])) word h = tt
piece_single (kind.Constant (n ∷ m ∷ ns)) word h = h
piece_single _ word h = tt

row_singles : (end : ℕ) (place : Place) (ts : List Token) (text rest : List ℕ) → Row end place ts text rest → Singles ts
row_singles end place [] text rest row = tt
row_singles end place (t ∷ ts) text rest row = (piece_single t.kind row.1.word row.1.spelled, row_singles end (next_place place t.kind) ts row.0 rest row.2)

-- the plain word of a piece, against the word that it has in a text
record PlainWord (after : Bool) (k : Kind) (word : List ℕ) : Type 0 where
  spelled : IsSpelled k (plain_word after k)
  short : length (plain_word after k) ≤ length word

word_plain : (after : Bool) (k : Kind) (word rest : List ℕ) → IsSpelled k word → (after ≡ true → is_in_name (class_at (word ++ rest)) ≡ false) → PlainWord after k word
word_plain after (kind.Constant []) word rest h ok = absurd h
word_plain after (kind.Constant (n ∷ [])) word rest h ok = let s = number_plain after n word rest h ok in record { spelled = rw (append-nil _) s.spelled; short = rw (append-nil _) s.short }
word_plain after (kind.Constant (n ∷ m ∷ ns)) word rest h ok = absurd h
word_plain after (kind.Text text) word rest h ok = record { spelled = refl; short = omega (arith, ap length h) }
word_plain after (kind.Name name) word rest h ok = record { spelled = (refl, h.1); short = omega (arith, ap length h.0) }
word_plain after (kind.System name) word rest h ok = record { spelled = refl; short = omega (arith, ap length h) }
word_plain after (kind.Comment text) word rest h ok = record { spelled = refl; short = omega (arith, ap length h) }
word_plain after (kind.Symbol symbol) word rest h ok = record { spelled = refl; short = omega (arith, ap length h) }

-- a number that joins another stands behind a blank at least
abbrev JoinsGap : Bool → Kind → ℕ → Type 0
JoinsGap true (kind.Constant ns) gap = 0 < gap
JoinsGap _ _ gap = Unit {0}

joins_gap : (k l : Kind) (gap word rest : List ℕ) → IsSpelled l word → Ends k (gap ++ (word ++ rest)) → JoinsGap (is_number k) l (length gap)
joins_gap (kind.Constant ns) (kind.Constant []) gap word rest h e = absurd h
joins_gap (kind.Constant ns) (kind.Constant (n ∷ [])) [] word rest h e = absurd (ends_constant (word ++ rest) e (number_first n word rest h))
joins_gap (kind.Constant ns) (kind.Constant (n ∷ [])) (c ∷ gap) word rest h e = omega arith
joins_gap (kind.Constant ns) (kind.Constant (n ∷ m ∷ os)) gap word rest h e = absurd h
joins_gap _ _ gap word rest h e = tt

-- the gap before a piece, against the gap that it has in a text
record Gap (number : Bool) (written : ℕ) (k : Kind) (at gap : ℕ) : Type 0 where
  before : written + gap_of number written k at < at
  at_is : at_of number written k at ≡ written + gap_of number written k at + 1
  none : gap_of number written k at ≡ 0 → gap ≡ 0

gap_fits : (number : Bool) (written : ℕ) (k : Kind) (at gap : ℕ) → written + gap < at → JoinsGap number k gap → Gap number written k at gap
gap_fits true written (kind.Constant ns) at gap lt joins = record { before = omega (arith, joins); at_is = omega arith; none = λ e. omega (arith, e) }
gap_fits _ written _ at gap lt joins = record { before = omega arith; at_is = omega arith; none = λ e. omega (arith, e) }

behind_name : (k : Kind) (text : List ℕ) → is_any_name k ≡ true → Ends k text → is_in_name (class_at text) ≡ false
behind_name (kind.Name name) text named h = h
behind_name (kind.System name) text named h = h
behind_name _ text named h = absurd cc

no_gap : (k : Kind) (gap text : List ℕ) → length gap ≡ 0 → Ends k (gap ++ text) → Ends k text
no_gap k [] text none h = h
no_gap k (c ∷ gap) text none h = absurd (omega (arith, none))

-- what stood directly behind a token may do so in its plain word
minus_first : (n : ℤ) (rest : List ℕ) → class_at (plain_word true (kind.Constant (n ∷ [])) ++ rest) ≡ class.Minus
minus_first (pos m) rest = minus_class
minus_first (negsuc m) rest = minus_class

minus_behind : (named : Bool) (n : ℤ) (rest : List ℕ) → named ≡ true → class_at (plain_word named (kind.Constant (n ∷ [])) ++ rest) ≡ class.Minus
minus_behind true n rest e = minus_first n rest
minus_behind false n rest e = absurd cc

same_word : (k : Kind) (word plain rest later : List ℕ) → word ≡ plain → 0 < length word → Ends k (word ++ rest) → Ends k (plain ++ later)
same_word k word plain rest later e some h =
    rw (← e) (ends_same k (word ++ rest) (word ++ later) (first_same word rest later some) (omega (arith, length-append word rest)) h)

ends_plain : (k l : Kind) (word rest later : List ℕ) → IsSpelled l word → Ends k (word ++ rest) → IsSpelled l (plain_word (is_any_name k) l) → Ends k (plain_word (is_any_name k) l ++ later)
ends_plain k (kind.Constant []) word rest later h e plain = absurd h
ends_plain k (kind.Constant (n ∷ [])) word rest later h e plain =
    ends_number_too k (word ++ rest) (plain_word (is_any_name k) (kind.Constant (n ∷ [])) ++ later) (number_first n word rest h) (number_first n (plain_word (is_any_name k) (kind.Constant (n ∷ []))) later plain) (minus_behind (is_any_name k) n later)
    (omega (arith, length-append word rest, word_some (kind.Constant (n ∷ [])) word h)) e
ends_plain k (kind.Constant (n ∷ m ∷ ns)) word rest later h e plain = absurd h
ends_plain k (kind.Text text) word rest later h e plain = same_word k word _ rest later h (word_some (kind.Text text) word h) e
ends_plain k (kind.Name name) word rest later h e plain = same_word k word _ rest later h.0 (word_some (kind.Name name) word h) e
ends_plain k (kind.System name) word rest later h e plain = same_word k word _ rest later h (word_some (kind.System name) word h) e
ends_plain k (kind.Comment text) word rest later h e plain = same_word k word _ rest later h (word_some (kind.Comment text) word h) e
ends_plain k (kind.Symbol symbol) word rest later h e plain = same_word k word _ rest later h (word_some (kind.Symbol symbol) word h) e

and_true : (b : Bool) → (b && true) ≡ b
and_true true = refl
and_true false = refl

ends_behind : (k l : Kind) (g : ℕ) (gap word rest later : List ℕ) → IsSpelled l word → Ends k (gap ++ (word ++ rest)) → (g ≡ 0 → length gap ≡ 0) → IsSpelled l (plain_word (is_any_name k && (g == 0)) l)
    → Ends k (replicate g 32 ++ (plain_word (is_any_name k && (g == 0)) l ++ later))
ends_behind k l zero gap word rest later h e none plain =
    let same = and_true (is_any_name k) in
    rw same (ends_plain k l word rest later h (no_gap k gap (word ++ rest) (none refl) e) (rw same at plain))
ends_behind k l (suc g) gap word rest later h e none plain =
    ends_blank k (gap ++ (word ++ rest)) (replicate g 32 ++ (plain_word (is_any_name k && (suc g == 0)) l ++ later)) (omega (arith, length-append gap (word ++ rest), length-append word rest, word_some l word h)) e

pub blanks : (n : ℕ) → all_blank (replicate n 32) ≡ true
blanks zero = refl
blanks (suc n) = rw (blank_class, blanks n) refl

-- pieces stand in their plain text, behind a token, no further to the right than in a text that they spell
record Fits (most end n : ℕ) (place : Place) (k : Kind) (ts : List Token) : Type 0 where
  row : Row end place (placed n (is_any_name k) (is_number k) ts) (row_text n (is_any_name k) (is_number k) ts) []
  ends : Ends k (row_text n (is_any_name k) (is_number k) ts)
  short : n + length (row_text n (is_any_name k) (is_number k) ts) < most

behind_len : (g : ℕ) (word later : List ℕ) → length (replicate g 32 ++ (word ++ later)) ≡ g + (length word + length later)
behind_len g word later = omega (arith, length-append (replicate g 32) (word ++ later), length-append word later, length-replicate {A = ℕ} g 32)

fits : (ts : List Token) (most end n : ℕ) (place : Place) (k : Kind) (text rest : List ℕ) → Row most place ts text rest → Ends k text → n + length text < most
    → end ≡ n + length (row_text n (is_any_name k) (is_number k) ts) + 1 → Fits most end n place k ts
fits [] most end n place k text rest row ends lt is = record { row = refl; ends = ends_nil k; short = omega arith }
fits (t ∷ ts) most end n place k text rest row ends lt is =
    let s : Step most place t text row.0 = row.1 in
    let g = gap_of (is_number k) n t.kind t.at in
    let word = word_in n (is_any_name k) (is_number k) t in
    let whole : length text ≡ length s.gap + (length s.word + length row.0) = ap length s.parts ∙ length-append s.gap (s.word ++ row.0) ∙ ap (λ (m : ℕ). length s.gap + m) (length-append s.word row.0) in
    let behind : Ends k (s.gap ++ (s.word ++ row.0)) = subst (λ (x : List ℕ). Ends k x) s.parts ends in
    let gap : Gap (is_number k) n t.kind t.at (length s.gap) = gap_fits (is_number k) n t.kind t.at (length s.gap) (omega (arith, s.at, length-append s.word row.0, whole)) (joins_gap k t.kind s.gap s.word row.0 s.spelled behind) in
    let after : (is_any_name k && (g == 0)) ≡ true → is_in_name (class_at (s.word ++ row.0)) ≡ false =
    λ e. behind_name k (s.word ++ row.0) (and_left (is_any_name k) (g == 0) e) (no_gap k s.gap (s.word ++ row.0) (gap.none (eqb-true g 0 (and_right (is_any_name k) (g == 0) e))) behind) in
    let plainly : PlainWord (is_any_name k && (g == 0)) t.kind s.word = word_plain (is_any_name k && (g == 0)) t.kind s.word row.0 s.spelled after in
    let m = n + g + length word in
    let later = row_text m (is_any_name t.kind) (is_number t.kind) ts in
    let len : length (replicate g 32 ++ (word ++ later)) ≡ g + (length word + length later) = behind_len g word later in
    let more : Fits most end m (next_place place t.kind) t.kind ts =
    fits ts most end m (next_place place t.kind) t.kind row.0 rest row.2 s.ends (omega (arith, s.at, length-append s.word row.0, gap.before, plainly.short)) (omega (arith, is, len)) in
    record {
      row = (
        later,
        record {
          gap = replicate g 32;
          word = word;
          parts = refl;
          blank = blanks g;
          at = omega (arith, is, len, length-append word later, gap.at_is);
          spelled = plainly.spelled;
          ends = more.ends;
          stands = s.stands;
        },
        more.row,
      );
      ends = ends_behind k t.kind g s.gap s.word row.0 later s.spelled behind gap.none plainly.spelled;
      short = omega (arith, len, more.short);
    }

-- the plain text is spelled, and no longer
pub record Plainly (tokens : List Token) (text : List ℕ) : Type 0 where
  pub spells : Spells tokens (plain tokens)
  pub short : length (plain tokens) ≤ length text

pub plainly : (tokens : List Token) (text : List ℕ) → Spells tokens text → Plainly tokens text
plainly tokens text s =
    let ps = s.pieces in
    let row = row_text 0 false false ps in
    let f : Fits (length text + 1) (length row + 1) 0 Start (kind.Symbol Dot) ps = fits ps (length text + 1) (length row + 1) 0 Start (kind.Symbol Dot) text s.spelled.rest s.spelled.row refl (omega arith) (omega arith) in
    let same : joined (placed 0 false false ps) ≡ joined ps = placed_joined ps 0 false in
    let is : plain tokens ≡ row = ap (λ (ts : List Token). plain ts) s.tokens_are ∙ text_by_pieces ps 0 false (row_singles (length text + 1) Start ps text s.spelled.rest s.spelled.row) in
    let short : length row ≤ length text = omega (arith, f.short) in
    let spells : Spells tokens row = record {
      short = omega (arith, short, s.short);
      pieces = placed 0 false false ps;
      spelled = record { rest = []; row = f.row; blank = refl };
      balanced = sym (joined_pairs [] (placed 0 false false ps)) ∙ ap (λ (ts : List Token). unmatched [] ts) same ∙ joined_pairs [] ps ∙ s.balanced;
      tokens_are = s.tokens_are ∙ sym same;
    } in
    record { spells = rw is spells; short = rw is short }
