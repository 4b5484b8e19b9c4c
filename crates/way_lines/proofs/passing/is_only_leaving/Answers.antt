-- Each step that leaves the node is of a way that refers to the node, and these were all looked at.
use Rattle.std.proofs.Common.{◌≡◌, List, refl, Contains, take, arith, sym, subst}
use Rattle.std.proofs.lemmas.List.{take_all}
use Rattle.road_base.specs.declared.ids.WayId.{WayId}
use Rattle.way_lines.proofs.passing.is_only_leaving.Goals as goal

pub returns : goal.returns
returns g c =
    let M = g.M.World.objects c.args.network.now.world.now in
    let ways = c.ways_at-way-items.result.now in
    let past = c.loop-way-test.false in
    let whole : take c.loop-way.way-index ways ≡ ways = take_all c.loop-way.way-index ways (omega arith) in (
      λ yes. (
        c.if-not-leaves.ensures.0 refl,
        λ u goes.
            let link = c.roads_refer.ensures.left M c.args.node u goes in
            let listed = c.ways_at-way-items.ensures.complete u.way link in
            c.loop-way.invariant u (subst (λ (ws : List WayId). Contains ws u.way) (sym whole) listed) goes,
      ),
      λ h. refl,
    )
