-- The listing of a code is UTF-8.
use Rattle.std.proofs.Common.{◌≡◌, ℕ, ◌+◌, ◌≤◌, List, [], ◌∷◌, length, subst, arith}
use Rattle.std.specs.Str.{IsUtf8}
use Rattle.std.specs.Prelude.{encode_utf8}
use Rattle.std.proofs.lemmas.Str.{IsUtf8-append, IsUtf8-encode, IsUtf8-nil, encode_ascii}
use Rattle.std.proofs.Math.Utf8.{low_scalar}
use Rattle.apl_charset.specs.Set.{is_member}
use Rattle.apl_charset.specs.Text.{IsText, bytes}
use Rattle.apl_charset.proofs.Members.{and_left, and_right, member_scalar}
use Rattle.apl_code.specs.declared.instr.Instr.{Instr}
use Rattle.apl_code.specs.Instr.{AreInstrs}
use Rattle.apl_code.specs.Code.{IsCode}
use Rattle.apl_listing.specs.Listing.{body, line, listed}
use Rattle.apl_listing.proofs.Lines.{body_text}

text_utf8 : (text : List ℕ) → IsText text → IsUtf8 (bytes text)
text_utf8 [] h = IsUtf8-nil
text_utf8 (c ∷ cs) h = IsUtf8-append (encode_utf8 c) (bytes cs) (IsUtf8-encode c (member_scalar c (and_left _ _ h))) (text_utf8 cs (and_right (is_member c) _ h))

feed_utf8 : IsUtf8 (10 ∷ [])
feed_utf8 = subst IsUtf8 (encode_ascii 10 (omega arith)) (IsUtf8-encode 10 (low_scalar 10 (omega arith)))

lines_utf8 : (n : ℕ) (code : List Instr) → n + length code ≤ 1000 → AreInstrs code → IsUtf8 (listed n code)
lines_utf8 n [] few h = IsUtf8-nil
lines_utf8 n (i ∷ code) few h =
    IsUtf8-append (line n i) (listed (n + 1) code)
    (IsUtf8-append (bytes (body n i)) (10 ∷ []) (text_utf8 (body n i) (body_text n i (omega arith) h.0)) feed_utf8)
    (lines_utf8 (n + 1) code (omega arith) h.1)

pub listing_utf8 : (code : List Instr) (listing : List ℕ) → IsCode code → listing ≡ listed 0 code → IsUtf8 listing
listing_utf8 code listing is e = rw e (lines_utf8 0 code (let few = is.few in omega arith) is.each)
