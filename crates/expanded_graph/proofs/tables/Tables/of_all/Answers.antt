-- The pieces are right without where they start, too, and these ways are watched.
use Rattle.std.proofs.Common.{ap, ◌∙◌}
use Rattle.expanded_graph.proofs.tables.Tables.of_all.Goals as goal

pub returns-clause-are : goal.returns-clause-are
returns-clause-are g c =
    let M = g.M.World.objects c.args.network.now.world.now in
    let P = g.P.Profile.rules c.args.network.now.profile in
    record {
      pieces = c.without_starts-pieces.ensures.are M P c.in_ok-pieces.ensures.are;
      watched = c.in_ok-watched.ensures.are;
      intersections = c.in_ok-intersections.ensures;
    }

pub returns-clause-ways : goal.returns-clause-ways
returns-clause-ways g c =
    ap (λ v. v.items) c.in_ok-watched.ensures.ways ∙ c.in_ok-served.ensures.items_if_clones_equal (λ x y is. is)
