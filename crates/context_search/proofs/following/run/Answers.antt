use Rattle.std.proofs.Common.{sym, ◌∙◌}
use Rattle.graph_blocks.specs.Lent.{map_of}
use Rattle.context_search.specs.Listed.{contexts_in}
use Rattle.context_search.proofs.SearchMarks.{IsPopped, popped_keeps, popped_place, popped_begun, popped_stays}
use Rattle.context_search.proofs.SearchMarks.{less_left}
use Rattle.context_search.proofs.SearchMarks.{gone_on, begun_again, emptied, closed_same, met_none}
use Rattle.context_search.proofs.following.run.Goals as goal

pub go_on-requires-clause-search : goal.go_on-requires-clause-search
go_on-requires-clause-search g c =
    let e = c.in-Some.ensures in
    let popped : IsPopped c.loop-place.search c.next.new.self c.in-Some.place
    = record { known = e.known; visits = e.visits; waiting = e.some } in
    popped_keeps (contexts_in (map_of c.args.blocks.now)) c.loop-place.search c.next.new.self c.in-Some.place popped
    (g.F.Phases.rules c.args.phases.now) c.loop-place.invariant.search

pub go_on-requires-clause-place : goal.go_on-requires-clause-place
go_on-requires-clause-place g c =
    let e = c.in-Some.ensures in
    let popped : IsPopped c.loop-place.search c.next.new.self c.in-Some.place
    = record { known = e.known; visits = e.visits; waiting = e.some } in
    popped_place (contexts_in (map_of c.args.blocks.now)) c.loop-place.search c.next.new.self c.in-Some.place popped
    (g.F.Phases.rules c.args.phases.now) c.loop-place.invariant.search

pub loop-place-smaller : goal.loop-place-smaller
loop-place-smaller g c =
    let e = c.in-Some.ensures in
    let popped : IsPopped c.loop-place.search c.next.new.self c.in-Some.place
    = record { known = e.known; visits = e.visits; waiting = e.some } in
    less_left (contexts_in (map_of c.args.blocks.now)) c.loop-place.search c.next.new.self c.in-Some.place popped
    c.go_on.new.search c.in_ok-met.ensures.grows

pub loop-place-preserved : goal.loop-place-preserved
loop-place-preserved g c =
    let L = contexts_in (map_of c.args.blocks.now) in
    let e = c.in-Some.ensures in
    let m = c.loop-place.search in
    let p = c.next.new.self in
    let n = c.go_on.new.search in
    let place = c.in-Some.place in
    let popped : IsPopped c.loop-place.search c.next.new.self c.in-Some.place
    = record { known = e.known; visits = e.visits; waiting = e.some } in
    let F = g.F.Phases.rules c.args.phases.now in
    let after = c.in_ok-met.ensures in
    let old = c.loop-place.invariant in
    record {
      search = after.search;
      closed = gone_on L m p place popped F c.args.goals.now n after.grows
          (met_none c.in_ok-met.met _ _ (sym c.is_some.ensures ∙ c.if-is_some.false) after.met) old.closed;
      begun = begun_again c.args.search.now m n old.begun (popped_begun L m p place popped n after.begun);
      stays = λ k h. popped_stays L m p place popped n after.grows k (old.stays k h);
    }

pub returns-clause-search : goal.returns-clause-search
returns-clause-search g c =
    let e = c.in_default.ensures in
    emptied (g.F.Phases.rules c.args.phases.now) (contexts_in (map_of c.args.blocks.now))
    c.loop-place.search c.next.new.self e.known e.visits
    e.empty c.loop-place.invariant.search

pub returns-clause-met : goal.returns-clause-met
returns-clause-met g c =
    let e = c.in_default.ensures in
    closed_same (g.F.Phases.rules c.args.phases.now) (contexts_in (map_of c.args.blocks.now)) c.args.goals.now
    c.loop-place.search c.next.new.self e.visits e.none
    c.loop-place.invariant.closed
