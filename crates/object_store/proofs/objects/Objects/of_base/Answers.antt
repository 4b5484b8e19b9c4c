use Rattle.std.proofs.Common.{ap, ◌∙◌}
use Rattle.object_store.specs.Keeping.{objects_in}
use Rattle.object_store.proofs.KeptPairs.{rising_by, kept_sorted, kept_objects}
use Rattle.object_store.proofs.objects.Objects.of_base.Goals as goal

pub of-requires : goal.of-requires
of-requires c =
    rising_by _ c.key_order.ensures.by_cmp c.into_items-list.result.items c.into_items-list.ensures.in_order

pub invariant_of-result : goal.invariant_of-result
invariant_of-result c =
    kept_sorted c.key_order.ensures.total c.into_items-list.result.items _ c.in_ok-map.ensures
    c.into_items-list.ensures.in_order

pub returns : goal.returns
returns c =
    ap objects_in c.in_ok-map.ensures ∙ kept_objects c.into_items-list.result.items ∙ c.into_items-list.ensures.objects
