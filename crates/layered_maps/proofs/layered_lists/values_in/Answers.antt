use Rattle.std.proofs.Common.{Contains, ap, sym, subst, ◌∙◌}
use Rattle.ordered_lists.specs.Orders.{Lists}
use Rattle.layered_maps.specs.Lists.{floor_list}
use Rattle.layered_maps.proofs.layered_lists.values_in.Goals as goal

pub returns-in-Some : goal.returns-in-Some
returns-in-Some g c =
    subst (λ ps. Lists (λ v. v) g.V.Ord.cmp (λ v. Contains ps (c.args.key, v)) c.at.result.now)
    (c.deref.ensures ∙ ap floor_list (sym c.in-Some.is)) c.at.ensures
