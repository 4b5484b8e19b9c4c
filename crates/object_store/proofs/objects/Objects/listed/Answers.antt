use Rattle.std.proofs.Common.{map, sym, subst, ap, ◌∙◌}
use Rattle.std.specs.FinMap.{same_entries_map}
use Rattle.object_store.specs.Listed.{IsInOrder, objects_of, pair_of}
use Rattle.object_store.proofs.InOrder.{entries_of}
use Rattle.object_store.proofs.objects.Objects.listed.Goals as goal

pub in_order-requires : goal.in_order-requires
in_order-requires c = subst IsInOrder (sym c.in_ok-list.ensures) c.walk.ensures.in_order

pub returns : goal.returns
returns c =
    let up = subst IsInOrder (sym c.in_ok-list.ensures) c.walk.ensures.in_order in
    c.in_ok-new.ensures.ok ∙ c.in_order.ensures ∙ same_entries_map (objects_of c.in_ok-list.list.items) c.args.self.now
    (entries_of c.key_order.ensures.total c.in_ok-list.list.items up
    ∙ ap (map pair_of) c.in_ok-list.ensures ∙ sym c.walk.ensures.entries)
