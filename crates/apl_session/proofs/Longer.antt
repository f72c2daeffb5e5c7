-- Lines of characters, one character more.
use Rattle.std.proofs.Common.{◌≡◌, ℕ, true, List, [], ◌∷◌, ◌++◌, refl, ◌∙◌, append_assoc}
use Rattle.std.specs.Prelude.{encode_utf8}
use Rattle.std.proofs.lemmas.List.Folds.{list_all-append}
use Rattle.std.proofs.lemmas.List.{append-nil}
use Rattle.std.proofs.lemmas.Str.{encodes-append}
use Rattle.apl_charset.specs.Set.{is_member}
use Rattle.apl_charset.specs.Text.{IsText, bytes}

pub one_more : (line prefix rest after : List ℕ) (c : ℕ) → line ≡ bytes prefix ++ rest → rest ≡ encode_utf8 c ++ after → line ≡ bytes (prefix ++ c ∷ []) ++ after
one_more line prefix rest after c e f = e ∙ rw (f, encodes-append prefix (c ∷ [])) (simp (append_assoc, append-nil))

pub IsText-push : (prefix : List ℕ) (c : ℕ) → IsText prefix → is_member c ≡ true → IsText (prefix ++ c ∷ [])
IsText-push prefix c h m = rw (list_all-append is_member prefix (c ∷ []), h, m) refl
