use Rattle.std.proofs.Common.{◌≡◌, ℕ, false, List, ◌++◌, length, refl}
use Rattle.std.specs.Prelude.{encode_utf8}
use Rattle.std.specs.Char.{IsScalar}
use Rattle.apl_charset.specs.Set.{is_member}
use Rattle.apl_charset.specs.Text.{IsText, IsLine, bytes}
use Rattle.apl_charset.specs.declared.line.CharFault.TheVariants.{NotInSet, Memory}
use Rattle.apl_charset.proofs.Lines.{one_more, IsText-push}
use Rattle.apl_charset.proofs.Unique.{text_or_fault}
use Rattle.apl_loading.proofs.texts.text_of.Goals as goal

is_fault : (at : ℕ) → ¬ (NotInSet at ≡ Memory)
is_fault at e = absurd cc

-- where a character outside the set comes behind some of it, bytes are no text
no_text : (line prefix rest after : List ℕ) (c : ℕ) → IsText prefix → line ≡ bytes prefix ++ rest → rest ≡ encode_utf8 c ++ after → is_member c ≡ false → IsScalar c → (text : List ℕ) → ¬ IsLine line text
no_text line prefix rest after c in_set parts begins out scalar text is =
    is_fault (length (bytes prefix)) (text_or_fault line text (NotInSet (length (bytes prefix))) is
    (record { prefix = prefix; rest = rest; in_set = in_set; parts = parts; before = refl; begins = (c, after, scalar, out, begins) }))

pub returns-in_default-member-clause-none : goal.returns-in_default-member-clause-none
returns-in_default-member-clause-none c =
    no_text c.args.string.now c.loop-c.found.items c.loop-c.chars.rest.now c.next.new.self.rest.now c.in-Some.c c.loop-c.invariant.in_set c.loop-c.invariant.parts c.in-Some.ensures.steps.0
    c.in_default-member.ensures.none.0 c.in_default-member.ensures.none.1

pub loop-c-preserved : goal.loop-c-preserved
loop-c-preserved c = rw (c.in_ok-push.ensures.items) (record {
  parts = rw c.in-Some-member.ensures.some.0 (one_more _ _ _ _ c.in-Some.c c.loop-c.invariant.parts c.in-Some.ensures.steps.0);
  in_set = rw c.in-Some-member.ensures.some.0 (IsText-push _ _ c.loop-c.invariant.in_set c.in-Some-member.ensures.some.1);
})
