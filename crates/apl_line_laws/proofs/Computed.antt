-- The code of a line by computation.
use Rattle.std.proofs.Common.{◌≡◌, ℕ, zero, suc, ◌&&◌, ◌==◌, Bool, true, false, List, [], ◌∷◌, ◌++◌, length, take, drop, Option, Some, None, Ok, Err, bytes_eq, refl, sym, subst}
use Rattle.std.specs.List.{list_all}
use Rattle.std.specs.Cmp.{first_so, second_so}
use Rattle.std.proofs.lemmas.Bool.{eqb-true}
use Rattle.std.proofs.lemmas.Slice.Eq.{bytes_eq-Decides}
use Rattle.apl_symbols.specs.declared.class.Class.{Class}
use Rattle.apl_tokens.specs.declared.token.Token.{Token}
use Rattle.apl_tokens.specs.Tokens.{tokens_of, Answer}
use Rattle.apl_code.specs.declared.instr.Instr.{Instr}
use Rattle.apl_code.specs.declared.row.Row.{Row}
use Rattle.apl_listing.specs.Listing.{listed}
use Rattle.apl_translate.specs.declared.form.Placed.{Placed}
use Rattle.apl_translate.specs.Binding.{bound_of, names_of}
use Rattle.apl_translate.specs.Phrase.{assigns, phrase}
use Rattle.apl_translate.specs.Translation.{Follows, Translates, instruction, kinds, last_instruction, reduced}
use Rattle.apl_translate.proofs.OneCode.{one_code}
use Rattle.apl_line_laws.specs.Codes.{HasListing, HaveListings, IsCodeOf, Worked, in_bytes}

-- ---- at most so many instructions

abbrev then_code : Bool → List Placed → (Bool → List Placed → List Instr) → Option (ℕ × Row) → List Instr
then_code assigned ps goes_on None = last_instruction assigned ps ∷ []
then_code assigned ps goes_on (Some p) = instruction p.1 (drop p.0 ps) ∷ goes_on (assigns p.1) (take p.0 ps ++ reduced p.1 (drop p.0 ps))

abbrev pub code_within : ℕ → Bool → List Placed → List Instr
code_within zero assigned ps = []
code_within (suc n) assigned ps = then_code assigned ps (code_within n) (phrase None (kinds ps))

-- the last of them ends the line
abbrev then_ends : List Placed → (List Placed → Bool) → Option (ℕ × Row) → Bool
then_ends ps goes_on None = true
then_ends ps goes_on (Some p) = goes_on (take p.0 ps ++ reduced p.1 (drop p.0 ps))

abbrev pub ends_within : ℕ → List Placed → Bool
ends_within zero ps = false
ends_within (suc n) ps = then_ends ps (ends_within n) (phrase None (kinds ps))

then_follows : (n : ℕ) (assigned : Bool) (ps : List Placed) (o : Option (ℕ × Row))
    → ((b : Bool) (qs : List Placed) → ends_within n qs ≡ true → Translates (code_within n b qs) b qs)
    → phrase None (kinds ps) ≡ o → then_ends ps (ends_within n) o ≡ true → Translates (then_code assigned ps (code_within n) o) assigned ps
then_follows n assigned ps None later e h = subst (Follows assigned ps (last_instruction assigned ps) [] (Translates [])) (sym e) (refl, refl)
then_follows n assigned ps (Some p) later e h =
    subst (Follows assigned ps (instruction p.1 (drop p.0 ps)) (code_within n (assigns p.1) (take p.0 ps ++ reduced p.1 (drop p.0 ps))) (Translates (code_within n (assigns p.1) (take p.0 ps ++ reduced p.1 (drop p.0 ps))))) (sym e)
    (refl, later (assigns p.1) (take p.0 ps ++ reduced p.1 (drop p.0 ps)) h)

translates : (n : ℕ) (assigned : Bool) (ps : List Placed) → ends_within n ps ≡ true → Translates (code_within n assigned ps) assigned ps
translates zero assigned ps h = absurd (cc)
translates (suc n) assigned ps h = then_follows n assigned ps (phrase None (kinds ps)) (λ b qs g. translates n b qs g) refl h

-- ---- worked lines

-- more than the worked lines need
abbrev most : ℕ
most = 40

abbrev pub code_of_tokens : List Token → List Class → List Instr
code_of_tokens ts classes = code_within most false (bound_of ts classes).items

-- the tokens have as many names as there are classes, their code ends, and it is listed so
abbrev pub is_listed : Worked → Answer → Bool
is_listed line (Err e) = false
is_listed line (Ok ts) = (length (names_of ts) == length line.classes) && (ends_within most (bound_of ts line.classes).items && bytes_eq (listed 0 (code_of_tokens ts line.classes)) (in_bytes line.listing))

listed-so : (line : Worked) (answer : Answer) → tokens_of line.text ≡ answer → is_listed line answer ≡ true → HasListing line
listed-so line (Err e) read h = absurd (cc)
listed-so line (Ok ts) read h = record { code = code_of_tokens ts line.classes; is_code = record { tokens = ts; read = read; named = named; translates = ends }; only = only; lists = lists }
  where
    rest : ends_within most (bound_of ts line.classes).items && bytes_eq (listed 0 (code_of_tokens ts line.classes)) (in_bytes line.listing) ≡ true
    rest = second_so (length (names_of ts) == length line.classes) _ h

    named : length (names_of ts) ≡ length line.classes
    named = eqb-true (length (names_of ts)) (length line.classes) (first_so (length (names_of ts) == length line.classes) _ h)

    ends : Translates (code_of_tokens ts line.classes) false (bound_of ts line.classes).items
    ends = translates most false (bound_of ts line.classes).items (first_so (ends_within most (bound_of ts line.classes).items) _ rest)

    lists : listed 0 (code_of_tokens ts line.classes) ≡ in_bytes line.listing
    lists = (bytes_eq-Decides (listed 0 (code_of_tokens ts line.classes)) (in_bytes line.listing)).0 (second_so (ends_within most (bound_of ts line.classes).items) _ rest)

    only : (others : List Instr) → IsCodeOf line.text line.classes others → others ≡ code_of_tokens ts line.classes
    only others c =
        let same : c.tokens ≡ ts = cc (read, c.read) in
        one_code others (code_of_tokens ts line.classes) false (bound_of ts line.classes).items (subst (λ us. Translates others false (bound_of us line.classes).items) same c.translates) ends

abbrev pub are_listed : List Worked → Bool
are_listed lines = list_all (λ line. is_listed line (tokens_of line.text)) lines

pub all_listed : (lines : List Worked) → are_listed lines ≡ true → HaveListings lines
all_listed [] h = tt
all_listed (line ∷ lines) h = (
  listed-so line (tokens_of line.text) refl (first_so (is_listed line (tokens_of line.text)) _ h),
  all_listed lines (second_so (is_listed line (tokens_of line.text)) _ h),
)
