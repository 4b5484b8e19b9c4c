use Rattle.std.proofs.Common.{List, sym, subst}
use Rattle.std.proofs.lemmas.Result.{IfOk-weaker}
use Rattle.road_base.specs.declared.ids.WayId.{WayId}
use Rattle.road_base.specs.Objects.{Objects}
use Rattle.ordered_lists.specs.Orders.{Lists}
use Rattle.road_model.specs.Links.{AreChanged}
use Rattle.road_model.specs.Orders.{way_cmp}
use Rattle.touched_ways.specs.Altering.{IsNearChange}
use Rattle.change_apply.proofs.PreparedKeys.{changed_of}
use Rattle.change_apply.proofs.touching.close_to.Goals as goal

-- the ways near a change
abbrev Close : Objects → Objects → List WayId → Type 0
Close M N ways = Lists (λ w. w) way_cmp (IsNearChange M N) ways

pub returns : goal.returns
returns c =
    let M = c.args.prepared.now.before in
    let N = c.args.prepared.now.after in
    let here = c.args.world.now in
    let next = c.of-next.result in
    let keys = c.keys.result.now in
    let changed = changed_of M N here next c.args.prepared.now.keys keys c.requires c.of-next.ensures
    c.keys.ensures.keys c.keys.ensures.differ in
    IfOk-weaker c.near_change.result (λ ways. AreChanged here next keys → Close here next ways) (Close M N)
    (λ ways are. subst (λ (x : Objects). Close x N ways) (sym c.requires)
    (subst (λ (x : Objects). Close here x ways) c.of-next.ensures (are changed))) c.near_change.ensures
