use Rattle.std.proofs.Common.{List, ap, sym, subst, ◌++◌, ◌∙◌}
use Rattle.std.specs.Prelude.{filter, filter_map}
use Rattle.road_base.specs.declared.ids.Key.{Key}
use Rattle.cell_check.specs.Outcomes.{AreOpenStarts, is_passed, failing_in}
use Rattle.cell_check.proofs.SearchedWays.{passing_lists, failing_are}
use Rattle.cell_check.proofs.checking.check.Goals as goal

pub returns-clause-passing : goal.returns-clause-passing
returns-clause-passing c =
    let s = c.in_ok-search.search in
    let done = c.in_ok-search.ensures c.args.area
    (subst (λ (l : List Key). AreOpenStarts c.args.world.now c.args.area l) (sym c.as_slice.ensures.value)
    c.in_ok-found.ensures.starts) in
    passing_lists c.args.world.now c.args.area c.args.cell s done c.name_order.ensures.ways
    c.in_ok-found.found.own.items c.in_ok-found.ensures.own c.tell_all.new.checked.passing.items
    (c.in_ok-tell_all.ensures.passing ∙ ap (λ l. l ++ filter (is_passed s) c.as_slice-2.result.now) c.new.ensures.items
    ∙ ap (filter (is_passed s)) c.as_slice-2.ensures.value)

pub returns-clause-failing : goal.returns-clause-failing
returns-clause-failing c =
    let s = c.in_ok-search.search in
    let done = c.in_ok-search.ensures c.args.area
    (subst (λ (l : List Key). AreOpenStarts c.args.world.now c.args.area l) (sym c.as_slice.ensures.value)
    c.in_ok-found.ensures.starts) in
    failing_are c.args.world.now c.args.area c.args.cell s done c.name_order.ensures.ways
    c.in_ok-found.found.own.items c.in_ok-found.ensures.own c.tell_all.new.checked.failing.items
    (c.in_ok-tell_all.ensures.failing
    ∙ ap (λ l. l ++ filter_map (failing_in s) c.as_slice-2.result.now) c.new-2.ensures.items
    ∙ ap (filter_map (failing_in s)) c.as_slice-2.ensures.value)
