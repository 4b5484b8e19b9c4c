use Rattle.std.proofs.Common.{drop, sym, subst}
use Rattle.layered_maps.specs.Layers.{Rise}
use Rattle.layered_maps.proofs.OverPairs.{replaced_all_rises}
use Rattle.layered_maps.proofs.sinking.sink_into.Goals as goal

pub returns-then-left-eq0-clause-rising : goal.returns-then-left-eq0-clause-rising
returns-then-left-eq0-clause-rising g c =
    let R = g.K.Ord.cmp in
    subst (Rise R) (sym c.replace_all-floor.ensures)
    (replaced_all_rises g.V.Keyed.key R g.met.K.Ord.total c.requires.exact
    (drop c.replace_all-floor.result.1 c.args.sinking.values.items) c.args.floor.value c.requires.floor)

pub returns-else-left-eq0-clause-rising : goal.returns-else-left-eq0-clause-rising
returns-else-left-eq0-clause-rising g c =
    let R = g.K.Ord.cmp in
    subst (Rise R) (sym c.replace_all-floor.ensures)
    (replaced_all_rises g.V.Keyed.key R g.met.K.Ord.total c.requires.exact
    (drop c.replace_all-floor.result.1 c.args.sinking.values.items) c.args.floor.value c.requires.floor)
