use Rattle.std.proofs.Common.{◌∙◌, ap}
use Rattle.context_search.specs.Marks.{at_of, names_behind}
use Rattle.least_cost.proofs.CheckSpots.{spot_read, no_target, leads_to}
use Rattle.least_cost.proofs.conditions.target.Goals as goal

pub unreachable-requires : goal.unreachable-requires
unreachable-requires c =
    let x = at_of c.index-spots-from.result in
    let at = spot_read c.args.spots.now c.args.from c.index-spots-from.result c.requires.within c.index-spots-from.is in
    no_target _ x c.args.arc c.args.from c.deref.result.now c.requires.targets at (c.requires.has x at)
    (c.deref.ensures.value ∙ c.in_ok-put_names.ensures ∙ ap (names_behind x) c.saturating_sub-count.ensures)
    c.in-None.ensures.none

pub returns-clause-within : goal.returns-clause-within
returns-clause-within c = c.in-Some.ensures.within

pub returns-clause-leads : goal.returns-clause-leads
returns-clause-leads c y also =
    let x = at_of c.index-spots-from.result in
    let at = spot_read c.args.spots.now c.args.from c.index-spots-from.result c.requires.within c.index-spots-from.is in
    leads_to c.args.spots.now x y c.args.arc c.args.from c.in-Some.number c.deref.result.now at also
    (c.deref.ensures.value ∙ c.in_ok-put_names.ensures ∙ ap (names_behind x) c.saturating_sub-count.ensures)
    c.in-Some.ensures.within c.in-Some.ensures.some
