use Rattle.std.proofs.Common.{map, sym, ap, ◌∙◌}
use Rattle.std.specs.FinMap.{entries}
use Rattle.object_store.specs.Listed.{pair_of}
use Rattle.object_store.proofs.InOrder.{entries_of}
use Rattle.object_store.proofs.base.Base.items.Goals as goal

pub returns-clause-entries : goal.returns-clause-entries
returns-clause-entries c =
    ap entries (sym c.self.view_is) ∙ entries_of c.key_order.ensures.total c.self.inside.list.items c.self.invariant
    ∙ ap (map pair_of) (sym c.as_slice.ensures.value)
