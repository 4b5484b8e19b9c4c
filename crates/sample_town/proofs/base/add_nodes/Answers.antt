use Rattle.std.proofs.Common.{◌≡◌}
use Rattle.sample_town.proofs.Listed.{listed_none, listed_more}
use Rattle.sample_town.specs.Lists.{base_node}
use Rattle.sample_town.proofs.base.add_nodes.Goals as goal

pub loop-place-init : goal.loop-place-init
loop-place-init c = listed_none base_node c.args.list.now.items

pub loop-place-preserved : goal.loop-place-preserved
loop-place-preserved c =
    let is : c.node.result ≡ base_node c.loop-place.place = cc in
    listed_more base_node c.loop-place.place c.args.list.now.items _ _ _
    c.loop-place.invariant is c.in_ok-push.ensures.items
