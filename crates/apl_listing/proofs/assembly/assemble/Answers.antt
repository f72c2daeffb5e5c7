use Rattle.std.proofs.Common.{◌≡◌, ◌-◌, ◌<◌, ℕ, List, [], ◌∷◌, ◌++◌, Option, Some, length, length-drop, drop, sym, ap, ◌∙◌, subst, refl, arith}
use Rattle.std.specs.Prelude.{IfSome}
use Rattle.apl_code.specs.declared.instr.Instr.{Instr}
use Rattle.apl_code.specs.Code.{IsCode}
use Rattle.apl_code.specs.Instr.{IsInstr}
use Rattle.apl_listing.specs.Listing.{line, listed}
use Rattle.apl_listing.specs.Assembly.{BeginsLine}
use Rattle.apl_listing.proofs.Choices.{of_some, of_none}
use Rattle.apl_listing.proofs.FirstLines.{form_none, form_full, form_more, whole, read_more}
use Rattle.apl_listing.proofs.assembly.assemble.Goals as goal

-- what was found, with the number of lines in the place of the length that was asked
found_at : (text : List ℕ) (code : List Instr) (n at : ℕ) (o : Option (Instr × ℕ)) (i : Instr) (len : ℕ) → n ≡ length code → o ≡ Some (i, len) → IfSome o (BeginsLine text n at) → BeginsLine text (length code) at (i, len)
found_at text code n at o i len m e h = subst (λ k. BeginsLine text k at (i, len)) m (of_some o (i, len) (BeginsLine text n at) e h)

rest_length : (text : List ℕ) (at len : ℕ) → length (drop len (drop at text)) ≡ length text - at - len
rest_length text at len = length-drop len (drop at text) ∙ ap (λ n. n - len) (length-drop at text)

no_length : (xs : List ℕ) → length xs ≡ 0 → xs ≡ []
no_length [] h = refl
no_length (x ∷ xs) h = absurd (omega arith)

pub returns-in-None-clause-fault : goal.returns-in-None-clause-fault
returns-in-None-clause-fault c =
    let n : c.len-in-None.result ≡ length c.loop-code.code.items = c.len-in-None.ensures ∙ c.loop-code.code.ok.0 in
    let m : c.len.result ≡ length c.loop-code.code.items = c.len.ensures ∙ c.loop-code.code.ok.0 in
    let none = of_none c.in_ok-next_from.field-0 ((i : Instr) (rest : List ℕ) → IsInstr i → drop c.loop-code.at c.args.text.now ≡ line c.len.result i ++ rest → ⊥) c.in-None.is c.in_ok-next_from.ensures.none in
    rw n (form_none c.args.text.now c.loop-code.code.items c.loop-code.at c.loop-code.invariant (λ i r h e. none i r h (e ∙ ap (λ k. line k i ++ r) (sym m))))

pub new-requires : goal.new-requires
new-requires c =
    let m : c.len.result ≡ length c.loop-code.code.items = c.len.ensures ∙ c.loop-code.code.ok.0 in
    let f = found_at c.args.text.now c.loop-code.code.items c.len.result c.loop-code.at c.in_ok-next_from.field-0 c.in-Some.instr c.in-Some.len m c.in-Some.is c.in_ok-next_from.ensures.found in
    let z = no_length (drop c.in-Some.len (drop c.loop-code.at c.args.text.now)) (let t : length (drop c.in-Some.len (drop c.loop-code.at c.args.text.now)) ≡ 0 = omega (arith, rest_length c.args.text.now c.loop-code.at c.in-Some.len, c.if-at-len.true) in t) in
    let w = whole c.args.text.now c.loop-code.code.items c.loop-code.at c.loop-code.invariant c.in-Some.instr (drop c.in-Some.len (drop c.loop-code.at c.args.text.now)) f.0 (sym c.is_end.ensures ∙ c.if-is_end.true) z f.2 in
    subst IsCode (sym c.in_ok-push-in-Some.ensures.items) w.0

pub returns-then-at-len-clause-found : goal.returns-then-at-len-clause-found
returns-then-at-len-clause-found c =
    let m : c.len.result ≡ length c.loop-code.code.items = c.len.ensures ∙ c.loop-code.code.ok.0 in
    let f = found_at c.args.text.now c.loop-code.code.items c.len.result c.loop-code.at c.in_ok-next_from.field-0 c.in-Some.instr c.in-Some.len m c.in-Some.is c.in_ok-next_from.ensures.found in
    let z = no_length (drop c.in-Some.len (drop c.loop-code.at c.args.text.now)) (let t : length (drop c.in-Some.len (drop c.loop-code.at c.args.text.now)) ≡ 0 = omega (arith, rest_length c.args.text.now c.loop-code.at c.in-Some.len, c.if-at-len.true) in t) in
    let w = whole c.args.text.now c.loop-code.code.items c.loop-code.at c.loop-code.invariant c.in-Some.instr (drop c.in-Some.len (drop c.loop-code.at c.args.text.now)) f.0 (sym c.is_end.ensures ∙ c.if-is_end.true) z f.2 in
    ap (listed 0) (c.new.ensures ∙ c.in_ok-push-in-Some.ensures.items) ∙ w.1

pub returns-then-is_end-clause-fault : goal.returns-then-is_end-clause-fault
returns-then-is_end-clause-fault c =
    let n : c.len-then-is_end.result ≡ length c.loop-code.code.items = c.len-then-is_end.ensures ∙ c.loop-code.code.ok.0 in
    let m : c.len.result ≡ length c.loop-code.code.items = c.len.ensures ∙ c.loop-code.code.ok.0 in
    let f = found_at c.args.text.now c.loop-code.code.items c.len.result c.loop-code.at c.in_ok-next_from.field-0 c.in-Some.instr c.in-Some.len m c.in-Some.is c.in_ok-next_from.ensures.found in
    let l : 0 < length (drop c.in-Some.len (drop c.loop-code.at c.args.text.now)) = omega (arith, rest_length c.args.text.now c.loop-code.at c.in-Some.len, f.1, c.if-at-len.false) in
    rw n (form_more c.args.text.now c.loop-code.code.items c.loop-code.at c.loop-code.invariant c.in-Some.instr (drop c.in-Some.len (drop c.loop-code.at c.args.text.now)) f.0 (sym c.is_end.ensures ∙ c.if-is_end.true) l f.2)

pub returns-then-len-eq999-clause-fault : goal.returns-then-len-eq999-clause-fault
returns-then-len-eq999-clause-fault c =
    let n : c.len-then-len-eq999.result ≡ length c.loop-code.code.items = c.len-then-len-eq999.ensures ∙ c.loop-code.code.ok.0 in
    let m : c.len.result ≡ length c.loop-code.code.items = c.len.ensures ∙ c.loop-code.code.ok.0 in
    let k : c.len-in-Some.result ≡ length c.loop-code.code.items = c.len-in-Some.ensures ∙ c.loop-code.code.ok.0 in
    let f = found_at c.args.text.now c.loop-code.code.items c.len.result c.loop-code.at c.in_ok-next_from.field-0 c.in-Some.instr c.in-Some.len m c.in-Some.is c.in_ok-next_from.ensures.found in
    rw n (form_full c.args.text.now c.loop-code.code.items c.loop-code.at c.loop-code.invariant c.in-Some.instr (drop c.in-Some.len (drop c.loop-code.at c.args.text.now)) (sym k ∙ c.if-len-eq999.true) f.0 (sym c.is_end.ensures ∙ c.if-is_end.false) f.2)

pub loop-code-preserved : goal.loop-code-preserved
loop-code-preserved c =
    let m : c.len.result ≡ length c.loop-code.code.items = c.len.ensures ∙ c.loop-code.code.ok.0 in
    let k : c.len-in-Some.result ≡ length c.loop-code.code.items = c.len-in-Some.ensures ∙ c.loop-code.code.ok.0 in
    let f = found_at c.args.text.now c.loop-code.code.items c.len.result c.loop-code.at c.in_ok-next_from.field-0 c.in-Some.instr c.in-Some.len m c.in-Some.is c.in_ok-next_from.ensures.found in
    let lt : length c.loop-code.code.items < 999 = omega (arith, k, c.if-len-eq999.false, c.loop-code.invariant.few) in
    rw (c.in_ok-push-in-Some-2.ensures.items) (read_more c.args.text.now c.loop-code.code.items c.loop-code.at c.loop-code.invariant c.in-Some.instr c.in-Some.len lt f.0 (sym c.is_end.ensures ∙ c.if-is_end.false) f.1 f.2)
