use Rattle.std.proofs.Common.{◌≡◌, ℕ, List, ◌∷◌, ◌++◌, [], ap, ◌∙◌, take, length, get_or, ◌+◌, ◌<◌, sym}
use Rattle.std.specs.Prelude.{encode_utf8}
use Rattle.std.proofs.lemmas.List.{take_more, append-nil}
use Rattle.std.proofs.lemmas.Str.{encodes-append}
use Rattle.apl_charset.specs.Text.{bytes}
use Rattle.apl_serve.proofs.shown.written.Goals as goal

one_more : (out new text : List ℕ) (i x c : ℕ) → i < length text → out ≡ bytes (take i text) → new ≡ out ++ encode_utf8 c → c ≡ x → x ≡ get_or text i x → new ≡ bytes (take (i + 1) text)
one_more out new text i x c lt so_far grown same at =
    let more : take (i + 1) text ≡ take i text ++ get_or text i x ∷ [] = take_more text i x lt in
    grown ∙ rw (more, encodes-append (take i text) (get_or text i x ∷ []), ← at, so_far, same) (ap (λ (t : List ℕ). bytes (take i text) ++ t) (sym (append-nil _)))

pub loop-c-preserved : goal.loop-c-preserved
loop-c-preserved c = one_more _ _ c.args.text.now c.loop-c.c-index c.c-item.result c.code.result c.loop-c-test.true c.loop-c.invariant c.in_ok-push.ensures.bytes c.code.ensures.value c.c-item.is
