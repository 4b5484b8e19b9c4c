use Rattle.std.proofs.Common.{ap, sym, ◌∙◌}
use Rattle.std.specs.FinMap.{entries}
use Rattle.object_store.proofs.KeptPairs.{walked_entries, walked_exactly, walked_in_order}
use Rattle.object_store.proofs.objects.Objects.walk.Goals as goal

pub returns-clause-entries : goal.returns-clause-entries
returns-clause-entries c =
    ap entries (sym c.self.view_is)
    ∙ walked_entries c.key_order.ensures.total c.walk.result c.self.inside.map (c.walk.ensures.pairs ∙ c.view.ensures)
    c.self.invariant

pub returns-clause-exactly : goal.returns-clause-exactly
returns-clause-exactly c =
    walked_exactly c.key_order.ensures.total c.key_order.ensures.ties c.walk.result c.self.inside.map
    (c.walk.ensures.pairs ∙ c.view.ensures) c.self.invariant c.args.self.now c.self.view_is

pub returns-clause-in_order : goal.returns-clause-in_order
returns-clause-in_order c =
    walked_in_order c.key_order.ensures.total c.walk.result c.self.inside.map (c.walk.ensures.pairs ∙ c.view.ensures)
    c.self.invariant
