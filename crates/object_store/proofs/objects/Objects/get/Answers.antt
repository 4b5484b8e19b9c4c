use Rattle.std.proofs.Common.{ap, ◌∙◌}
use Rattle.std.specs.FinMap.{get}
use Rattle.object_store.proofs.KeptPairs.{exact_by, got_by}
use Rattle.object_store.proofs.objects.Objects.get.Goals as goal

pub get-requires : goal.get-requires
get-requires c = exact_by _ c.key_order.ensures.by_cmp c.key_order.ensures.ties

pub returns-clause-entry : goal.returns-clause-entry
returns-clause-entry c =
    got_by c.key_order.ensures.total _ c.key_order.ensures.by_cmp c.args.key c.self.inside.map _ c.get.ensures.value
    ∙ ap (λ m. get m c.args.key) c.self.view_is
