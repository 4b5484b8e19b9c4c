use Rattle.std.proofs.Common.{◌∙◌, map, sym}
use Rattle.std.proofs.lemmas.List.{length-map}
use Rattle.context_search.specs.Marks.{at_of}
use Rattle.context_search.proofs.SearchTargets.{has_targets}
use Rattle.least_cost.proofs.CheckShown.{certifies, counted, everywhere, not_refused}
use Rattle.least_cost.proofs.checking.shows_over.Goals as goal

pub returns-then-not-are_as_many : goal.returns-then-not-are_as_many
returns-then-not-are_as_many g c =
    let M = g.M.World.objects c.args.network.now.world.now in
    let P = g.P.Profile.rules c.args.network.now.profile in
    let spots = c.args.spots.now in
    let m = c.args.claim.now in
    let o = c.name_order.ensures in (
      λ t. cc,
      λ cert. absurd (c.are_as_many.ensures.no c.if-not-are_as_many.true
          (counted M P o.names o.lists o.list_ties m.a m.b m.cost (map at_of spots) c.requires c.args.numbers.now cert
          ∙ length-map spots at_of)),
    )

pub hold-requires-clause-up : goal.hold-requires-clause-up
hold-requires-clause-up g c = c.requires.up

pub hold-requires-clause-targets : goal.hold-requires-clause-targets
hold-requires-clause-targets g c =
    let M = g.M.World.objects c.args.network.now.world.now in
    let P = g.P.Profile.rules c.args.network.now.profile in
    has_targets M P (map at_of c.args.spots.now) c.requires

pub hold-requires-clause-count : goal.hold-requires-clause-count
hold-requires-clause-count g c = c.are_as_many.ensures.yes c.if-not-are_as_many.false

pub returns : goal.returns
returns g c =
    let M = g.M.World.objects c.args.network.now.world.now in
    let P = g.P.Profile.rules c.args.network.now.profile in
    let spots = c.args.spots.now in
    let m = c.args.claim.now in
    let o = c.name_order.ensures in
    let count = c.are_as_many.ensures.yes c.if-not-are_as_many.false ∙ sym (length-map spots at_of) in (
      λ t. certifies M P o.names o.lists o.list_ties m.a m.b m.cost (map at_of spots) c.requires c.args.numbers.now
          count (c.in_ok-holds.ensures.yes t),
      λ cert. not_refused c.in_ok-holds.holds (λ f. c.in_ok-holds.ensures.no f
          (everywhere M P o.names o.lists o.list_ties m.a m.b m.cost (map at_of spots) c.requires c.args.numbers.now
          cert)),
    )
