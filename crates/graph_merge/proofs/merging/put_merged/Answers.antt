use Rattle.std.proofs.Common.{rules, map, IsTrue, subst}
use Rattle.ordered_lists.specs.Orders.{rises}
use Rattle.road_model.specs.Orders.{way_cmp}
use Rattle.graph_merge.specs.Collecting.{StopsRising}
use Rattle.graph_merge.proofs.MergedFiles.{are_way_blocks, merged_is, twice_is, known_version, known_profile}
use Rattle.graph_merge.proofs.merging.put_merged.Goals as goal

pub returns-in-Some-clause-fault : goal.returns-in-Some-clause-fault
returns-in-Some-clause-fault c = λ bytes all.
    let sorted = c.sort_by_way.new.blocks.items in
    twice_is c.args.collected all.files all.has sorted c.sort_by_way.ensures.permutation bytes c.in-Some.way all.spelled
    c.sort_by_way.ensures.sorted
    (subst (λ l. StopsRising l c.in-Some.way) c.deref.ensures.value c.in-Some.ensures.some)

pub put_blocks-requires-clause-version : goal.put_blocks-requires-clause-version
put_blocks-requires-clause-version c = known_version c.args.collected c.requires.1.files c.requires.1.has

pub put_blocks-requires-clause-profile : goal.put_blocks-requires-clause-profile
put_blocks-requires-clause-profile c = known_profile c.args.collected c.requires.1.files c.requires.1.has

pub put_blocks-requires-clause-blocks : goal.put_blocks-requires-clause-blocks
put_blocks-requires-clause-blocks c =
    are_way_blocks c.args.collected c.requires.1.files c.requires.1.has c.sort_by_way.new.blocks.items
    c.sort_by_way.ensures.permutation

pub returns-in-Ok-clause-merged : goal.returns-in-Ok-clause-merged
returns-in-Ok-clause-merged c = λ bytes all.
    let sorted = c.sort_by_way.new.blocks.items in
    let up : IsTrue (rises way_cmp (map (λ b. b.way) sorted)) = search rules in
    merged_is c.args.collected all.files all.has sorted c.sort_by_way.ensures.permutation bytes c.in-Ok.out.items
    all.spelled up c.in-Ok.ensures
