-- At a free node the arc leads to the piece alone.
use Rattle.std.proofs.Common.{sym, ap, subst}
use Rattle.road_model.specs.Blocks.{IsArcEntry}
use Rattle.expanded_graph.proofs.sources.onward_by.Goals as goal

pub returns-then-intersection-clause-is : goal.returns-then-intersection-clause-is
returns-then-intersection-clause-is g c =
    let M = g.M.World.objects c.args.network.now.world.now in
    let P = g.P.Profile.rules c.args.network.now.profile in
    record {
      named = ap (λ a. a.piece) c.arc_alone.ensures;
      arc = λ u b follow reached. subst (IsArcEntry M P b) (sym c.arc_alone.ensures)
          (c.requires.free c.if-intersection.true c.args.departure u b c.requires.departure follow reached);
      none = tt;
    }

pub returns-clause-is : goal.returns-clause-is
returns-clause-is g c =
    let e = c.arc_ahead.ensures in
    record { named = e.named; arc = e.arc; none = e.none }
