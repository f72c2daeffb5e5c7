use Rattle.std.proofs.Common.{◌≡◌, ℕ, List, ◌∙◌, ap, ◌++◌, ◌+◌, length, length-append, arith, sym}
use Rattle.std.proofs.lemmas.List.{nil_from_length, append-nil}
use Rattle.std.specs.Prelude.{encode_utf8}
use Rattle.apl_charset.specs.Text.{bytes}
use Rattle.apl_charset.proofs.Lines.{one_more, IsText-push}
use Rattle.apl_charset.proofs.line.decode_text.Goals as goal

pub loop-c-preserved : goal.loop-c-preserved
loop-c-preserved c = rw (c.in_ok-push-in-Some-new.ensures.items) (record {
  parts = rw c.in-Some-new.ensures.some.0 (one_more _ _ _ _ c.in-Some.c c.loop-c.invariant.parts c.in-Some.ensures.steps.0);
  in_set = rw c.in-Some-new.ensures.some.0 (IsText-push _ _ c.loop-c.invariant.in_set c.in-Some-new.ensures.some.1);
})

-- the bytes of the text are those before the character, its own, and those after it
sizes : (text prefix rest after own : List ℕ) → text ≡ bytes prefix ++ rest → rest ≡ own ++ after → length text ≡ length (bytes prefix) + length own + length after
sizes text prefix rest after own e f = omega (arith, ap length e, ap length f, length-append (bytes prefix) rest, length-append own after)

pub overflow_sub-result-in-None : goal.overflow_sub-result-in-None
overflow_sub-result-in-None c = omega (arith, ap length c.as_str.ensures, sizes c.args.text.now c.loop-c.out.items c.loop-c.chars.rest.now c.next.new.self.rest.now (encode_utf8 c.in-Some.c) c.loop-c.invariant.parts c.in-Some.ensures.steps.0)

pub overflow_sub-result : goal.overflow_sub-result
overflow_sub-result c = omega (arith, ap length c.as_str.ensures, sizes c.args.text.now c.loop-c.out.items c.loop-c.chars.rest.now c.next.new.self.rest.now (encode_utf8 c.in-Some.c) c.loop-c.invariant.parts c.in-Some.ensures.steps.0)

pub returns-in-None-clause-fault : goal.returns-in-None-clause-fault
returns-in-None-clause-fault c = record {
  prefix = c.loop-c.out.items;
  rest = c.loop-c.chars.rest.now;
  in_set = c.loop-c.invariant.in_set;
  parts = c.loop-c.invariant.parts;
  before = omega (arith, ap length c.as_str.ensures, sizes c.args.text.now c.loop-c.out.items c.loop-c.chars.rest.now c.next.new.self.rest.now (encode_utf8 c.in-Some.c) c.loop-c.invariant.parts c.in-Some.ensures.steps.0);
  begins = (c.in-Some.c, c.next.new.self.rest.now, c.in-None.ensures.none.1, c.in-None.ensures.none.0, c.in-Some.ensures.steps.0);
}

pub returns-clause-ok : goal.returns-clause-ok
returns-clause-ok c = record {
  in_set = c.loop-c.invariant.in_set;
  spelled = sym (c.loop-c.invariant.parts ∙ rw (nil_from_length _ c.in_default.ensures.steps.0.0) (append-nil _));
}
