use Rattle.std.proofs.Common.{◌≡◌, ◌<◌, length, vec_len, arith, rules, ◌≤◌, ◌+◌, ◌^◌, ℕ, ℤ, List, map, take, ap, sym, ◌∙◌}
use Rattle.std.specs.Prelude.{count_by}
use Rattle.std.proofs.lemmas.List.{take_all}
use Rattle.std.proofs.lemmas.List.Sums.{count_by-le-length}
use Rattle.apl_select.specs.Compress.{is_one, kept}
use Rattle.apl_select.specs.Lined.{item_or}
use Rattle.apl_select.proofs.Lanes.{length-numbers}
use Rattle.apl_select.proofs.NextPlace.{count_within, kept_step, next_step}
use Rattle.apl_select.proofs.compression.KeepingStructural.make.Goals as goal

few_fit : (a b c n : ℕ) → a ≡ b → b ≤ c → c ≤ n → n ≤ 1000000 → a < 2 ^ 64
few_fit a b c n e h k l = omega arith

pub loop-k-preserved : goal.loop-k-preserved
loop-k-preserved g c =
    let bits = g.L.Lane.numbers c.args.self.bits.now in
    let as_many : length bits ≡ length c.args.self.bits.now = length-numbers g.L.Lane.value g.L.Lane.numbers g.met.L.Lane.each c.args.self.bits.now in
    let within : c.loop-k.k < length bits = omega (arith, c.loop-k-test.true) in
    let long : length c.loop-k.out.items ≡ vec_len c.loop-k.out = search rules in
    let room : c.loop-k.next < length c.loop-k.out.items =
    omega (arith, long, c.loop-k.invariant.size, c.loop-k.invariant.next, count_within bits c.loop-k.k, c.count_ones-count.ensures) in
    record {
      size = c.loop-k.invariant.size;
      next = next_step bits c.loop-k.k c.loop-k.next c.step-next.result within c.step-next.ensures c.loop-k.invariant.next;
      so_far =
          kept_step c.args.fill c.args.items.now c.loop-k.out.items bits c.loop-k.k c.loop-k.next c.step-next.result c.index-items-k.result within c.requires.each room c.index-items-k.is
          c.step-next.ensures c.loop-k.invariant.so_far;
    }

pub overflow_add-next : goal.overflow_add-next
overflow_add-next g c = record {
  fits =
      let bits = g.L.Lane.numbers c.args.self.bits.now in
      let as_many : length bits ≡ length c.args.self.bits.now = length-numbers g.L.Lane.value g.L.Lane.numbers g.met.L.Lane.each c.args.self.bits.now in
      let next : c.loop-k.next + c.step-next.result ≡ count_by is_one (take (c.loop-k.k + 1) bits) =
      next_step bits c.loop-k.k c.loop-k.next c.step-next.result (omega (arith, c.loop-k-test.true)) c.step-next.ensures c.loop-k.invariant.next
      in
      few_fit (c.loop-k.next + c.step-next.result) _ _ _ next (count_within bits (c.loop-k.k + 1)) (count_by-le-length is_one bits) (omega (arith, c.requires.each, c.requires.few));
}

pub returns : goal.returns
returns g c =
    let bits = g.L.Lane.numbers c.args.self.bits.now in
    let as_many : length bits ≡ length c.args.self.bits.now = length-numbers g.L.Lane.value g.L.Lane.numbers g.met.L.Lane.each c.args.self.bits.now in
    let all : c.loop-k.k ≡ length bits = omega arith in
    let counted : c.loop-k.next ≡ c.count_ones-count.result =
    c.loop-k.invariant.next ∙ ap (λ (zs : List ℤ). count_by is_one zs) (take_all c.loop-k.k bits (omega arith)) ∙ sym c.count_ones-count.ensures
    in
    λ d.
    c.truncate.ensures.items
    ∙ ap (λ (n : ℕ). take n c.loop-k.out.items) (sym counted)
    ∙ c.loop-k.invariant.so_far
    ∙ ap (λ (n : ℕ). map (item_or c.args.fill c.args.items.now) (kept bits (length bits) n)) all

pub index_mut-requires : goal.index_mut-requires
index_mut-requires g c =
    omega (arith, c.loop-k.invariant.size, c.loop-k.invariant.next, count_within (g.L.Lane.numbers c.args.self.bits.now) c.loop-k.k, c.count_ones-count.ensures)

pub overflow_add-count : goal.overflow_add-count
overflow_add-count g c = record {
  fits =
      let bits = g.L.Lane.numbers c.args.self.bits.now in
      let within : count_by is_one bits ≤ length bits = count_by-le-length is_one bits in
      omega (arith, within, c.count_ones-count.ensures, c.requires.each, c.requires.few);
}

pub count_ones-count-requires : goal.count_ones-count-requires
count_ones-count-requires g c =
    omega (arith, length-numbers g.L.Lane.value g.L.Lane.numbers g.met.L.Lane.each c.args.self.bits.now, c.requires.each, c.requires.few)
