use Rattle.sample_town.proofs.BaseLists.{after_ways, after_base, base_is}
use Rattle.sample_town.proofs.base.base_events.Goals as goal

pub returns-clause-items : goal.returns-clause-items
returns-clause-items c =
    let there = after_ways c.args.draws.now.state c.add_ways_east.new.draws.state c.add_ways_north.new.draws.state
    c.in_ok-add_ways_east.ensures.state c.in_ok-add_ways_north.ensures.state in
    base_is c.args.draws.now.state c.add_ways_east.new.draws.state c.add_ways_north.new.draws.state _ _ _ _ _
    c.in_ok-add_ways_east.ensures.state there c.in_ok-list.ensures.items c.in_ok-add_nodes.ensures
    c.in_ok-add_ways_east.ensures.items c.in_ok-add_ways_north.ensures.items c.in_ok-add_restrictions.ensures.items

pub returns-clause-state : goal.returns-clause-state
returns-clause-state c =
    let there = after_ways c.args.draws.now.state c.add_ways_east.new.draws.state c.add_ways_north.new.draws.state
    c.in_ok-add_ways_east.ensures.state c.in_ok-add_ways_north.ensures.state in
    after_base c.args.draws.now.state c.add_ways_north.new.draws.state _ there c.in_ok-add_restrictions.ensures.state
