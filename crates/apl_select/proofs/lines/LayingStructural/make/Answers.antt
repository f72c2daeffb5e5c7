use Rattle.std.proofs.Common.{◌*◌, ◌++◌, length, ap, sym, ◌∙◌, ◌≡◌, ℕ, arith}
use Rattle.apl_select.specs.inside.Laying.{plane_of, planes_of}
use Rattle.apl_select.specs.Lined.{item_or}
use Rattle.std.proofs.Math.Nat.{mul-le-mul_right}
use Rattle.apl_select.proofs.Lists.{flat_map_more}
use Rattle.apl_select.proofs.Laying.{within_plane, near_plane}
use Rattle.apl_select.proofs.lines.LayingStructural.make.Goals as goal

pub lay_plane-requires-clause-within : goal.lay_plane-requires-clause-within
lay_plane-requires-clause-within g c =
    within_plane c.args.self.layout.planes c.args.self.layout.length c.args.self.layout.block c.loop-plane.plane (length c.args.items.now) c.args.self.places.now c.loop-plane-test.true c.requires.whole c.requires.places

pub loop-plane-preserved : goal.loop-plane-preserved
loop-plane-preserved g c =
    c.in_ok-lay_plane.ensures
    ∙ ap (λ l. l ++ plane_of (item_or c.args.fill c.args.items.now) (c.loop-plane.plane * c.args.self.layout.length) c.args.self.layout.block c.args.self.places.now) c.loop-plane.invariant
    ∙ sym (flat_map_more (λ p. plane_of (item_or c.args.fill c.args.items.now) (p * c.args.self.layout.length) c.args.self.layout.block c.args.self.places.now) c.loop-plane.plane)

pub lay_plane-requires-clause-near : goal.lay_plane-requires-clause-near
lay_plane-requires-clause-near g c = near_plane c.args.self.layout.planes c.args.self.layout.length c.loop-plane.plane c.args.self.places.now c.loop-plane-test.true c.requires.near c.requires.places

pub returns : goal.returns
returns g c =
    let all : c.loop-plane.plane ≡ c.args.self.layout.planes = omega arith in
    λ d. c.loop-plane.invariant ∙ ap (λ (n : ℕ). planes_of (item_or c.args.fill c.args.items.now) c.args.self.layout.length c.args.self.layout.block c.args.self.places.now n) all

pub overflow_mul-plane : goal.overflow_mul-plane
overflow_mul-plane g c = record { fits = omega (arith, c.requires.near, mul-le-mul_right {m = c.loop-plane.plane} {n = c.args.self.layout.planes} c.args.self.layout.length (omega arith)) }
