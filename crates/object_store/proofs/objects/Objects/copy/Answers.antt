use Rattle.std.proofs.Common.{IsTrue, sym, subst}
use Rattle.std.specs.FinMap.{is_sorted}
use Rattle.road_base.specs.Objects.{key_cmp}
use Rattle.object_store.proofs.objects.Objects.copy.Goals as goal

pub invariant_of-result : goal.invariant_of-result
invariant_of-result c =
    subst (λ m. IsTrue (is_sorted key_cmp m)) (sym c.in_ok-map.ensures) c.self.invariant
