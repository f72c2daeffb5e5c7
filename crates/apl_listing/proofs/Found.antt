-- The line that a text begins with.
use Rattle.std.proofs.Common.{◌≡◌, ℕ, ◌+◌, ◌<◌, ◌≤◌, ◌^◌, true, false, List, [], ◌∷◌, ◌++◌, length, drop, Option, Some, sym, ap, ◌∙◌, arith, append_assoc, length-append}
use Rattle.std.specs.Str.{bytes_eq}
use Rattle.std.proofs.lemmas.Slice.Eq.{bytes_eq-Decides}
use Rattle.std.proofs.lemmas.Str.{encodes_same}
use Rattle.apl_charset.specs.Text.{bytes, IsLine}
use Rattle.apl_code.specs.declared.instr.Instr.{Instr}
use Rattle.apl_code.specs.Instr.{IsInstr}
use Rattle.apl_listing.specs.Listing.{body, line}
use Rattle.apl_listing.specs.inside.Reading.{past, instr_at}
use Rattle.apl_listing.proofs.Lists.{drop_prefix}
use Rattle.apl_listing.proofs.Lines.{body_again, body_text}

-- what is read of an instruction's line is that instruction
pub is_read : (n : ℕ) (text tail : List ℕ) (o : Option Instr) → n < 2 ^ 64 → tail ≡ past 32 text → o ≡ instr_at tail → (i : Instr) → IsInstr i → text ≡ body n i → o ≡ Some i
is_read n text tail o lt t r i h e = r ∙ ap instr_at t ∙ ap (λ u. instr_at (past 32 u)) e ∙ body_again n i lt h

pub same_text : (a b : List ℕ) → true ≡ bytes_eq a b → a ≡ b
same_text a b e = (bytes_eq-Decides a b).0 (sym e)

pub other_text : (a b : List ℕ) → false ≡ bytes_eq a b → a ≡ b → ⊥
other_text a b e s = let t : true ≡ false = sym ((bytes_eq-Decides a b).1 s) ∙ sym e in cc

pub line_is : (n : ℕ) (i : Instr) (first : List ℕ) → n < 2 ^ 64 → IsInstr i → first ≡ bytes (body n i) → IsLine first (body n i)
line_is n i first lt h e = record { in_set = body_text n i lt h; spelled = sym e }

pub text_is : (n : ℕ) (i : Instr) (first text : List ℕ) → IsLine first text → first ≡ bytes (body n i) → text ≡ body n i
text_is n i first text l e = encodes_same text (body n i) (l.spelled ∙ e)

pub found_line : (n : ℕ) (i : Instr) (text first rest : List ℕ) → text ≡ first ++ 10 ∷ rest → IsInstr i → first ≡ bytes (body n i) → IsInstr i × (length first + 1 ≤ length text) × (text ≡ line n i ++ drop (length first + 1) text)
found_line n i text first rest e h f =
    let prefix : List ℕ = first ++ 10 ∷ [] in
    let l : length first + 1 ≡ length prefix = sym (length-append first (10 ∷ [])) in
    let s : text ≡ prefix ++ rest = e ∙ sym (append_assoc first (10 ∷ []) rest) in
    let d : drop (length first + 1) text ≡ rest = ap (drop (length first + 1)) s ∙ drop_prefix (length first + 1) prefix rest l in
    let k : length first + 1 ≤ length text = omega (arith, ap length s, length-append prefix rest) in
    (h, k, s ∙ ap (λ b. (b ++ 10 ∷ []) ++ rest) f ∙ ap (λ r. line n i ++ r) (sym d))
