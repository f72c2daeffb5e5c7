-- A text and its words.
use Rattle.std.proofs.Common.{◌≡◌, ℕ, ◌<◌, ◌≤◌, Bool, true, false, cond, List, [], ◌∷◌, ◌++◌, length, map, refl, sym, ap, ◌∙◌, arith, append_assoc}
use Rattle.std.specs.Prelude.{◌==◌, Option}
use Rattle.apl_code.specs.declared.instr.Source.{Source}
use Rattle.apl_listing.specs.inside.Reading.{until, past, onto, words, source_of}

past_case : (b : Bool) (cs rest : List ℕ) → length rest ≤ length cs → length (cond b cs rest) ≤ length cs
past_case true cs rest h = omega arith
past_case false cs rest h = h

pub past_le : (mark : ℕ) (text : List ℕ) → length (past mark text) ≤ length text
past_le mark [] = omega arith
past_le mark (c ∷ cs) = let h = past_case (c == mark) cs (past mark cs) (past_le mark cs) in omega arith

pub past_less : (mark : ℕ) (text : List ℕ) → 0 < length text → length (past mark text) < length text
past_less mark [] h = absurd (omega arith)
past_less mark (c ∷ cs) h = let k = past_case (c == mark) cs (past mark cs) (past_le mark cs) in omega arith

step_case : (b : Bool) (c : ℕ) (cs : List ℕ) (ws : List (List ℕ)) (u p : List ℕ) → ws ≡ u ∷ words p → cond b ([] ∷ words cs) (onto c ws) ≡ cond b [] (c ∷ u) ∷ words (cond b cs p)
step_case true c cs ws u p e = refl
step_case false c cs ws u p e = ap (onto c) e

last_case : (b : Bool) (c : ℕ) → cond b ([] ∷ []) ((c ∷ []) ∷ []) ≡ cond b [] (c ∷ []) ∷ words (cond b [] [])
last_case true c = refl
last_case false c = refl

pub words_step : (text : List ℕ) → 0 < length text → words text ≡ until 32 text ∷ words (past 32 text)
words_step [] h = absurd (omega arith)
words_step (c ∷ []) h = last_case (c == 32) c
words_step (c ∷ d ∷ cs) h = step_case (c == 32) c (d ∷ cs) (words (d ∷ cs)) (until 32 (d ∷ cs)) (past 32 (d ∷ cs)) (words_step (d ∷ cs) (omega arith))

-- one source more
pub source_more : (text all : List ℕ) (out next : List (Option Source)) → 0 < length text → next ≡ out ++ source_of (until 32 text) ∷ [] → out ++ map source_of (words text) ≡ map source_of (words all) → next ++ map source_of (words (past 32 text)) ≡ map source_of (words all)
source_more text all out next h e f = rw (e) (simp append_assoc (ap (λ ws. out ++ map source_of ws) (sym (words_step text h)) ∙ f))
