use Rattle.std.proofs.Common.{negsuc, pos, get_or, subst, ℤ, List, FitsSigned, w8, rules, arith}
use Rattle.std.specs.List.{All}
use Rattle.std.proofs.lemmas.Int.{ints}
use Rattle.std.proofs.lemmas.List.{take_all}
use Rattle.std.proofs.lemmas.List.Elements.{All-more}
use Rattle.apl_search.specs.declared.table.Span.{Span}
use Rattle.apl_search.specs.inside.Tables.{IsWithin}
use Rattle.apl_search.proofs.bytes.inspect.Goals as goal

pub loop-byte-preserved : goal.loop-byte-preserved
loop-byte-preserved c =
    let span : Span = record { smallest = negsuc 127; largest = pos 127 } in
    let fits : FitsSigned w8 (get_or c.args.bytes.now c.loop-byte.byte-index (pos 0)) = search rules in
    All-more (IsWithin span) c.args.bytes.now c.loop-byte.byte-index (pos 0) c.loop-byte-test.true c.loop-byte.invariant (record { low = omega (arith, ints); high = omega (arith, ints) })

pub returns : goal.returns
returns c =
    let span : Span = record { smallest = negsuc 127; largest = pos 127 } in
    let P : List ℤ → Type 0 = λ zs. All (IsWithin span) zs in
    subst P (take_all c.loop-byte.byte-index c.args.bytes.now c.loop-byte-test.false) c.loop-byte.invariant
