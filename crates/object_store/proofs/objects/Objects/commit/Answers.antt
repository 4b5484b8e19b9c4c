use Rattle.std.proofs.Common.{IsTrue, ap, sym, subst, ◌∙◌}
use Rattle.std.specs.FinMap.{is_sorted}
use Rattle.road_base.specs.Objects.{key_cmp}
use Rattle.object_store.specs.Keeping.{objects_in}
use Rattle.object_store.proofs.KeptPairs.{exact_by}
use Rattle.object_store.proofs.objects.Objects.commit.Goals as goal

pub commit-requires : goal.commit-requires
commit-requires c = exact_by _ c.key_order.ensures.by_cmp c.key_order.ensures.ties

pub invariant_of-self : goal.invariant_of-self
invariant_of-self c =
    subst (λ m. IsTrue (is_sorted key_cmp m)) (sym (c.commit.ensures ∙ c.new-prepared.ensures.after))
    c.into_map-after.ensures.rising

pub returns : goal.returns
returns c =
    ap objects_in (c.commit.ensures ∙ c.new-prepared.ensures.after) ∙ c.into_map-after.ensures.objects
    ∙ c.into_objects.ensures
