-- Where who comes may not go on so, no arc leads from there.
use Rattle.std.proofs.Common.{sym, ◌∙◌}
use Rattle.way_pieces.specs.Names.{piece_of}
use Rattle.ordered_lists.proofs.ListMembers.{in_from_contains}
use Rattle.expanded_graph.proofs.NextDepartures.{Laws}
use Rattle.expanded_graph.proofs.SourcePlain.{gains_shut}
use Rattle.expanded_graph.proofs.sources.add_arrival.Goals as goal

pub returns-then-not-may_follow : goal.returns-then-not-may_follow
returns-then-not-may_follow g c = λ p is named.
    let M = g.M.World.objects c.args.network.now.world.now in
    let P = g.P.Profile.rules c.args.network.now.profile in
    let i = c.args.intersection in
    let a = c.args.told.arrival in
    let d = c.args.onward.departure in
    let laws : Laws M P =
    record {
      names = c.name_order.ensures.names;
      one = c.one_name.ensures.pieces M;
      depart = c.steps_depart.ensures M;
    } in
    gains_shut M P laws (piece_of a.span) c.requires.arrival.is i c.requires.intersection a.from
    c.requires.arrival.arrives d (in_from_contains i.departures.now d c.requires.departure) p is named
    (sym c.may_follow.ensures ∙ c.if-not-may_follow.true) c.args.list.now.items
