use Rattle.std.proofs.Common.{◌++◌, List, sym, ap, subst, ◌∙◌}
use Rattle.std.proofs.lemmas.Result.{on_ok_weaker}
use Rattle.road_base.specs.declared.ids.Key.{Key}
use Rattle.road_base.specs.declared.ids.WayId.{WayId}
use Rattle.cell_check.specs.Closing.{AddsOpen}
use Rattle.cell_check.proofs.OwnedEntries.{highway_in, names_are, owned_is}
use Rattle.cell_check.proofs.gathering.add_of_entry.Goals as goal

pub returns-in-Way-Way-clause-open : goal.returns-in-Way-Way-clause-open
returns-in-Way-Way-clause-open g c =
    let M = g.M.World.objects c.args.world.now in
    let e = c.args.entry.now in
    let w = c.in-Way-Way.way in
    let body = c.in-Way-Way.body in
    let nodes = c.items.result.now in
    let tagged = sym c.has_highway.ensures ∙ c.if-has_highway.true in
    on_ok_weaker c.add_highway.result
    (λ adds entry. subst
    (λ (l : List Key). AddsOpen M c.args.area.now l c.args.found.now.starts.items
    c.add_highway.new.found.starts.items)
    (sym (names_are M e w body c.in-Way-Way.is-0 c.in-Way-Way.is-1 tagged nodes c.items.ensures.items))
    (adds (highway_in M e w body c.in-Way-Way.is-0 c.in-Way-Way.is-1 tagged nodes c.items.ensures.items entry)))
    c.add_highway.ensures.open

pub returns-in-Way-Way-clause-own : goal.returns-in-Way-Way-clause-own
returns-in-Way-Way-clause-own g c =
    let M = g.M.World.objects c.args.world.now in
    let e = c.args.entry.now in
    let w = c.in-Way-Way.way in
    let body = c.in-Way-Way.body in
    let tagged = sym c.has_highway.ensures ∙ c.if-has_highway.true in
    on_ok_weaker c.add_highway.result
    (λ owns entry. owns (highway_in M e w body c.in-Way-Way.is-0 c.in-Way-Way.is-1 tagged c.items.result.now
    c.items.ensures.items entry)
    ∙ ap (λ (l : List WayId). c.args.found.now.own.items ++ l)
    (sym (owned_is M e w body c.in-Way-Way.is-0 c.in-Way-Way.is-1 tagged c.args.cell.now)))
    c.add_highway.ensures.own
