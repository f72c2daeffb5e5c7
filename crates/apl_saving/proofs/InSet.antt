-- Texts in UTF-8, one character more.
use Rattle.std.proofs.Common.{◌≡◌, ℕ, ◌+◌, ◌<◌, true, List, [], ◌∷◌, ◌++◌, length, take, get_or, sym, ap, ◌∙◌}
use Rattle.std.specs.Prelude.{encode_utf8}
use Rattle.std.proofs.lemmas.List.{take_more, append-nil}
use Rattle.std.proofs.lemmas.Str.{encodes-append}
use Rattle.apl_charset.specs.Set.{is_member}
use Rattle.apl_charset.specs.Text.{IsLine, bytes}
use Rattle.apl_charset.proofs.Lines.{IsText-push}

line_push : (line prefix : List ℕ) (c : ℕ) → IsLine line prefix → is_member c ≡ true → IsLine (line ++ encode_utf8 c) (prefix ++ c ∷ [])
line_push line prefix c h m = record {
  in_set = IsText-push prefix c h.in_set m;
  spelled = encodes-append prefix (c ∷ []) ∙ ap (λ bs. bs ++ bytes (c ∷ [])) h.spelled ∙ ap (λ bs. line ++ bs) (append-nil (encode_utf8 c));
}

pub line_more : (line new text : List ℕ) (i c x : ℕ) → IsLine line (take i text) → new ≡ line ++ encode_utf8 c → c ≡ x → is_member x ≡ true → i < length text → x ≡ get_or text i x → IsLine new (take (i + 1) text)
line_more line new text i c x h grown same m lt at =
    let more : take (i + 1) text ≡ take i text ++ x ∷ [] = take_more text i x lt ∙ ap (λ z. take i text ++ z ∷ []) (sym at) in
    rw (grown, same, more) (line_push line (take i text) x h m)
