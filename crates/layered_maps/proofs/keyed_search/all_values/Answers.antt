use Rattle.std.proofs.Common.{IsTrue, map, sym, subst, ◌∙◌}
use Rattle.ordered_lists.specs.Orders.{rises}
use Rattle.layered_maps.proofs.keyed_search.all_values.Goals as goal

pub returns-clause-ascending : goal.returns-clause-ascending
returns-clause-ascending g c =
    subst (λ l. IsTrue (rises g.K.Ord.cmp (map g.V.Keyed.key l))) (sym (c.of.ensures ∙ c.again.ensures)) c.requires

pub returns-clause-values : goal.returns-clause-values
returns-clause-values g c = c.of.ensures ∙ c.again.ensures
