use Rattle.std.proofs.Common.{sym, subst, ◌∙◌}
use Rattle.layered_maps.specs.Maps.{AreKeyed}
use Rattle.layered_maps.proofs.OverPairs.{changes_keyed}
use Rattle.layered_maps.proofs.layered_map.LayeredMap.prepare.Goals as goal

pub prepared-requires-clause-keyed : goal.prepared-requires-clause-keyed
prepared-requires-clause-keyed g c =
    subst (AreKeyed g.V.Keyed.key g.K.Ord.cmp) (sym (c.of-run.ensures ∙ c.in_ok-entries_of.ensures))
    (changes_keyed g.V.Keyed.key g.K.Ord.cmp g.met.K.Ord.total c.requires.exact c.args.changes.items)
