use Rattle.std.proofs.Common.{◌≡◌, pos, ◌+◌, ◌++◌, ◌∷◌, [], get_or, ap, sym, ◌∙◌, true, false, Some, ℕ, ◌<◌, ◌≤◌, length, map, take, arith}
use Rattle.std.proofs.lemmas.List.Sums.{count_by_more_yes, count_by_more_no, count_by-le-length}
use Rattle.apl_select.specs.Compress.{is_one, spread_at}
use Rattle.std.specs.Prelude.{count_by}
use Rattle.std.specs.List.{range_with_len}
use Rattle.std.proofs.lemmas.List.{length-take-le}
use Rattle.apl_select.proofs.Choosing.{spread_no, spread_yes}
use Rattle.apl_select.proofs.Lanes.{length-numbers}
use Rattle.apl_select.proofs.bits.spread_over.Goals as goal

pub loop-k-preserved-then-not-is_one_at : goal.loop-k-preserved-then-not-is_one_at
loop-k-preserved-then-not-is_one_at g c =
    let zs = g.L.Lane.numbers c.args.bits.now in
    let long : length zs ≡ length c.args.bits.now = length-numbers g.L.Lane.value g.L.Lane.numbers g.met.L.Lane.each c.args.bits.now in
    let within : c.loop-k.k < length zs = omega (arith, c.loop-k-test.true) in
    let bit : is_one (get_or zs c.loop-k.k (pos 0)) ≡ false = sym c.is_one_at.ensures ∙ c.if-not-is_one_at.true in
    record {
      next = c.loop-k.invariant.next ∙ sym (count_by_more_no is_one zs c.loop-k.k (pos 0) within bit);
      places = spread_no zs c.args.len c.loop-k.k c.loop-k.places.items c.push.new.self.items c.loop-k.invariant.places c.in_ok-push.ensures.items bit;
    }

pub loop-k-preserved : goal.loop-k-preserved
loop-k-preserved g c =
    let zs = g.L.Lane.numbers c.args.bits.now in
    let long : length zs ≡ length c.args.bits.now = length-numbers g.L.Lane.value g.L.Lane.numbers g.met.L.Lane.each c.args.bits.now in
    let within : c.loop-k.k < length zs = omega (arith, c.loop-k-test.true) in
    let bit : is_one (get_or zs c.loop-k.k (pos 0)) ≡ true = sym c.is_one_at.ensures ∙ c.if-not-is_one_at.false in
    record {
      next = ap (λ n. n + 1) c.loop-k.invariant.next ∙ sym (count_by_more_yes is_one zs c.loop-k.k (pos 0) within bit);
      places =
          spread_yes zs c.args.len c.loop-k.k c.loop-k.next c.loop-k.places.items c.push-in-loop-k.new.self.items c.loop-k.invariant.next c.loop-k.invariant.places
          (c.in_ok-push-2.ensures.items ∙ ap (λ j. c.loop-k.places.items ++ Some j ∷ []) c.extended.ensures) bit;
    }

pub overflow_add-next : goal.overflow_add-next
overflow_add-next g c = record {
  fits =
      let zs = g.L.Lane.numbers c.args.bits.now in
      let long : length zs ≡ length c.args.bits.now = length-numbers g.L.Lane.value g.L.Lane.numbers g.met.L.Lane.each c.args.bits.now in
      let few : count_by is_one (take c.loop-k.k zs) ≤ length (take c.loop-k.k zs) = count_by-le-length is_one (take c.loop-k.k zs) in
      let short : length (take c.loop-k.k zs) ≡ c.loop-k.k = length-take-le c.loop-k.k zs (omega arith) in
      omega (arith, c.loop-k.invariant.next, few, short);
}

pub returns : goal.returns
returns g c =
    let zs = g.L.Lane.numbers c.args.bits.now in
    let long : length zs ≡ length c.args.bits.now = length-numbers g.L.Lane.value g.L.Lane.numbers g.met.L.Lane.each c.args.bits.now in
    let all : c.loop-k.k ≡ length zs = omega arith in
    c.loop-k.invariant.places ∙ ap (λ (n : ℕ). map (spread_at zs c.args.len) (range_with_len 0 n)) all
