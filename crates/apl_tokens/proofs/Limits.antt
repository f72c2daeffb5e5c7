-- The constants of a text have numbers that fit, and not too many.
use Rattle.std.proofs.Common.{◌≡◌, ℕ, zero, suc, ◌+◌, ◌∙◌, ap, if◌then◌else◌, ◌^◌, ◌≤◌, Bool, true, false, List, [], ◌∷◌, ◌++◌, length, get_or, ℤ, sym, subst, arith}
use Rattle.std.specs.Prelude.{FitsSigned, All}
use Rattle.std.specs.Int.{w64}
use Rattle.std.proofs.lemmas.Bool.{ltb-true, leb-true}
use Rattle.std.proofs.lemmas.List.{length-append}
use Rattle.std.specs.Str.Parse.{digits_value}
use Rattle.apl_tokens.specs.declared.token.Kind.{Kind}
use Rattle.apl_tokens.specs.declared.token.Kind.TheVariants.{Constant, Text}
use Rattle.apl_tokens.specs.declared.token.Token.{Token}
use Rattle.apl_tokens.specs.declared.place.Place.{Place}
use Rattle.apl_tokens.specs.declared.place.Place.TheVariants.{Start}
use Rattle.std.specs.List.{flat_map}
use Rattle.apl_tokens.specs.Characters.{class_of, is_quote}
use Rattle.apl_tokens.specs.Spelling.{signed_value, in_range, doubled, IsSpelled, next_place, Row}
use Rattle.apl_tokens.specs.Lines.{Spells, Fits}
use Rattle.apl_tokens.specs.Joined.{join_kinds, join, joined}
use Rattle.apl_tokens.specs.Tokens.{AllFit, KindFits, AllKindsFit, IsShort, AllShort, AreTokens}
use Rattle.apl_tokens.proofs.Columns.{row_ascends, ascend_few, tokens_ascend, tokens_few}

-- a number that is spelled fits
signed_fits : (negative : Bool) (m : ℕ) → in_range negative m ≡ true → FitsSigned w64 (signed_value negative m)
signed_fits false m h = let lt = ltb-true m (2 ^ 63) h in record { sfits = lt }
signed_fits true zero h = record { sfits = omega arith }
signed_fits true (suc m) h = let le = leb-true (suc m) (2 ^ 63) h in record { sfits = omega arith }

piece_fits : (k : Kind) (word : List ℕ) → IsSpelled k word → KindFits 1 k
piece_fits (Constant []) word h = absurd h
piece_fits (Constant (n ∷ [])) word h = (omega arith, omega arith, (subst (λ (z : ℤ). FitsSigned w64 z) (sym h.value) (signed_fits h.negative (digits_value 10 h.digits) h.fits), tt))
piece_fits (Constant (n ∷ m ∷ ns)) word h = absurd h
piece_fits _ word h = tt

row_constants : (end : ℕ) (place : Place) (ts : List Token) (text rest : List ℕ) → Row end place ts text rest → AllKindsFit 1 ts
row_constants end place [] text rest row = tt
row_constants end place (t ∷ ts) text rest row =
    let s = row.1 in
    (piece_fits t.kind s.word s.spelled, row_constants end (next_place place t.kind) ts row.0 rest row.2)

-- joining keeps them
KindFits-more : (m n : ℕ) (k : Kind) → m ≤ n → KindFits m k → KindFits n k
KindFits-more m n (Constant ns) le h = (h.0, omega (arith, h.1), h.2)
KindFits-more m n _ le h = tt

AllKindsFit-more : (m n : ℕ) (ts : List Token) → m ≤ n → AllKindsFit m ts → AllKindsFit n ts
AllKindsFit-more m n [] le h = tt
AllKindsFit-more m n (t ∷ ts) le h = (KindFits-more m n t.kind le h.0, AllKindsFit-more m n ts le h.1)

AllFit-append : (ns ms : List ℤ) → AllFit ns → AllFit ms → AllFit (ns ++ ms)
AllFit-append [] ms f g = g
AllFit-append (n ∷ ns) ms f g = (f.0, AllFit-append ns ms f.1 g)

-- a piece joins tokens whose constants have at most n numbers
fits_kinds : (n : ℕ) (t : Token) (k : Kind) (u : Token) (l : Kind) (us : List Token) → KindFits 1 k → KindFits n l → AllKindsFit (suc n) (t ∷ u ∷ us) → AllKindsFit (suc n) (join_kinds t k u l us)
fits_kinds n t (Constant ns) u (Constant ms) us f g h = ((omega (arith, length-append ns ms, f.0), omega (arith, length-append ns ms, f.1, g.1), AllFit-append ns ms f.2 g.2), h.1.1)
fits_kinds n t (Constant ns) u _ us f g h = h
fits_kinds n t _ u _ us f g h = h

fits_join : (n : ℕ) (t : Token) (us : List Token) → KindFits 1 t.kind → AllKindsFit n us → AllKindsFit (suc n) (join t us)
fits_join n t [] f h = (KindFits-more 1 (suc n) t.kind (omega arith) f, tt)
fits_join n t (u ∷ us) f h = fits_kinds n t t.kind u u.kind us f h.0 (KindFits-more 1 (suc n) t.kind (omega arith) f, AllKindsFit-more n (suc n) (u ∷ us) (omega arith) h)

fits_joined : (ts : List Token) → AllKindsFit 1 ts → AllKindsFit (length ts) (joined ts)
fits_joined [] h = tt
fits_joined (t ∷ ts) h = fits_join (length ts) t (joined ts) h.0 (fits_joined ts h.1)

-- a text is no longer than its word
longer_by : (q : Bool) (c : ℕ) (cs rest : List ℕ) → length cs ≤ length rest → length (c ∷ cs) ≤ length ((if q then 39 ∷ 39 ∷ [] else c ∷ []) ++ rest)
longer_by true c cs rest le = omega (arith, le)
longer_by false c cs rest le = omega (arith, le)

doubled_longer : (cs : List ℕ) → length cs ≤ length (flat_map doubled cs)
doubled_longer [] = omega arith
doubled_longer (c ∷ cs) = longer_by (is_quote (class_of c)) c cs (flat_map doubled cs) (doubled_longer cs)

piece_short : (k : Kind) (word : List ℕ) (limit : ℕ) → IsSpelled k word → length word ≤ limit → IsShort limit k
piece_short (Text cs) word limit h le = omega (arith, le, ap length h, doubled_longer cs, length-append (flat_map doubled cs) (39 ∷ []))
piece_short _ word limit h le = tt

row_texts : (limit end : ℕ) (place : Place) (ts : List Token) (text rest : List ℕ) → length text ≤ limit → Row end place ts text rest → AllShort limit ts
row_texts limit end place [] text rest le row = tt
row_texts limit end place (t ∷ ts) text rest le row =
    let s = row.1 in
    let parts : length text ≡ length s.gap + (length s.word + length row.0) = ap length s.parts ∙ length-append s.gap (s.word ++ row.0) ∙ ap (λ n. length s.gap + n) (length-append s.word row.0) in
    (piece_short t.kind s.word limit s.spelled (omega (arith, parts, le)), row_texts limit end (next_place place t.kind) ts row.0 rest (omega (arith, parts, le)) row.2)

-- joining keeps them
short_kinds : (limit : ℕ) (t : Token) (k : Kind) (u : Token) (l : Kind) (us : List Token) → AllShort limit (t ∷ u ∷ us) → AllShort limit (join_kinds t k u l us)
short_kinds limit t (Constant ns) u (Constant ms) us h = (tt, h.1.1)
short_kinds limit t (Constant ns) u _ us h = h
short_kinds limit t _ u _ us h = h

short_join : (limit : ℕ) (t : Token) (us : List Token) → IsShort limit t.kind → AllShort limit us → AllShort limit (join t us)
short_join limit t [] f h = (f, tt)
short_join limit t (u ∷ us) f h = short_kinds limit t t.kind u u.kind us (f, h)

short_joined : (limit : ℕ) (ts : List Token) → AllShort limit ts → AllShort limit (joined ts)
short_joined limit [] h = tt
short_joined limit (t ∷ ts) h = short_join limit t (joined ts) h.0 (short_joined limit ts h.1)

pub tokens_limits : (ts : List Token) (text : List ℕ) → Spells ts text → AreTokens ts
tokens_limits ts text s =
    let columns = row_ascends _ 0 Start s.pieces text s.spelled.rest (omega (arith, s.short)) (omega arith) s.spelled.row in
    let pieces : length s.pieces ≤ 500 = omega (arith, ascend_few 0 s.pieces (omega arith) columns) in
    let constants = fits_joined s.pieces (row_constants _ Start s.pieces text s.spelled.rest s.spelled.row) in
    record {
      few = tokens_few text ts s;
      columns = tokens_ascend text ts s;
      constants = rw s.tokens_are (AllKindsFit-more (length s.pieces) 500 (joined s.pieces) pieces constants);
      texts = rw s.tokens_are (short_joined 500 s.pieces (row_texts 500 _ Start s.pieces text s.spelled.rest s.short s.spelled.row));
    }

-- the same by index
pub constants_at : (limit : ℕ) (ts : List Token) → AllKindsFit limit ts → All (λ (t : Token). KindFits limit t.kind) ts
constants_at limit [] h k d lt = absurd (omega arith)
constants_at limit (t ∷ ts) h zero d lt = h.0
constants_at limit (t ∷ ts) h (suc k) d lt = constants_at limit ts h.1 k d (omega arith)

pub numbers_at : (ns : List ℤ) → AllFit ns → All (λ (n : ℤ). FitsSigned w64 n) ns
numbers_at [] h k d lt = absurd (omega arith)
numbers_at (n ∷ ns) h zero d lt = h.0
numbers_at (n ∷ ns) h (suc k) d lt = numbers_at ns h.1 k d (omega arith)

numbers_fit : (limit : ℕ) (k : Kind) → KindFits limit k → Fits k
numbers_fit limit (Constant ns) h = numbers_at ns h.2
numbers_fit limit _ h = tt

pub tokens_fit : (text : List ℕ) (ts : List Token) → Spells ts text → All (λ (t : Token). Fits t.kind) ts
tokens_fit text ts s = λ k d lt. numbers_fit 500 (get_or ts k d).kind (constants_at 500 ts (tokens_limits ts text s).constants k d lt)
