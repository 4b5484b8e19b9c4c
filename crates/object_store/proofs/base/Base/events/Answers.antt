use Rattle.std.proofs.Common.{map, sym, ap, ◌∙◌}
use Rattle.std.specs.FinMap.{entries}
use Rattle.object_store.specs.Listed.{pair_of}
use Rattle.object_store.proofs.InOrder.{entries_of}
use Rattle.object_store.proofs.base.Base.events.Goals as goal

pub returns : goal.returns
returns c =
    sym (ap entries (sym c.self.view_is) ∙ entries_of c.key_order.ensures.total c.self.inside.list.items
    c.self.invariant ∙ ap (map pair_of) (sym (c.in_ok-list.ensures ∙ c.as_slice.ensures.value)))
