use Rattle.object_store.specs.Listed.{is_way}
use Rattle.object_store.proofs.KindEntries.{pairs_of_kind, exactly_kind}
use Rattle.object_store.proofs.base.Base.ways.Goals as goal

pub returns-clause-entries : goal.returns-clause-entries
returns-clause-entries c =
    pairs_of_kind c.key_order.ensures.total is_way c.args.self.now c.self.inside.list.items c.as_slice.result.now
    c.ways_in.result.now c.self.invariant c.self.view_is c.as_slice.ensures.value c.ways_in.ensures.ways

pub returns-clause-exactly : goal.returns-clause-exactly
returns-clause-exactly c =
    exactly_kind c.key_order.ensures.total c.key_order.ensures.ties is_way c.args.self.now c.self.inside.list.items
    c.as_slice.result.now c.ways_in.result.now c.self.invariant c.self.view_is c.as_slice.ensures.value
    c.ways_in.ensures.ways
