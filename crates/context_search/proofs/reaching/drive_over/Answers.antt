-- The visits lead along legal drives, and where none of them meets a goal no drive does.
use Rattle.std.proofs.Common.{◌≡◌, ◌<◌, Some, Option, MatchOption, List, Contains, length, sym, subst}
use Rattle.std.proofs.Common.{ℕ, slice_get, ◌≤◌, refl}
use Rattle.std.proofs.lemmas.Option.{slice_get_within}
use Rattle.graph_blocks.specs.Lent.{map_of}
use Rattle.context_search.specs.declared.ends.Begin.{Begin}
use Rattle.context_search.specs.declared.ends.Goal.{Goal}
use Rattle.context_search.specs.declared.following.Meeting.{Meeting}
use Rattle.context_search.specs.declared.marks.TreeVisit.{TreeVisit}
use Rattle.context_search.specs.Listed.{contexts_in}
use Rattle.context_search.specs.Routes.{Descend, AreSpelled, IsRoute}
use Rattle.context_search.specs.Sought.{AreStarts}
use Rattle.context_search.specs.Visits.{IsClosed, IsVisited, Meets, first_key, goal_in}
use Rattle.context_search.proofs.SearchSeen.{none_leads}
use Rattle.context_search.proofs.SearchDriven.{driven, led_along}
use Rattle.context_search.proofs.SearchTargets.{start_listed, has_targets}
use Rattle.context_search.proofs.SearchTogether.{new_search, still_begun, met_goal, first_closed}
use Rattle.context_search.proofs.SearchTogether.{descends, entry_ascends, visits_spelled, goal_within}
use Rattle.context_search.proofs.reaching.drive_over.Goals as goal

pub begin-requires-clause-order : goal.begin-requires-clause-order
begin-requires-clause-order g c =
    let M = g.M.World.objects c.args.network.now.world.now in
    c.listed_contexts.ensures.order M (map_of c.args.blocks.now) c.requires.graph

pub begin-requires-clause-listed : goal.begin-requires-clause-listed
begin-requires-clause-listed g c =
    let M = g.M.World.objects c.args.network.now.world.now in
    let P = g.P.Profile.rules c.args.network.now.profile in
    let m = map_of c.args.blocks.now in
    let starts = subst (λ (l : List Begin). AreStarts M P c.args.ends.now.a l) (sym c.deref.ensures.value)
    c.requires.ends.starts in
    start_listed M P (contexts_in m) c.args.ends.now.a c.deref.result.now
    (c.listed_contexts.ensures.spots M m c.requires.graph) starts

pub begin-requires-clause-search : goal.begin-requires-clause-search
begin-requires-clause-search g c =
    let L = contexts_in (map_of c.args.blocks.now) in
    let made = c.new-search.ensures in
    new_search (g.F.Phases.rules c.args.phases.now) L
    c.new-search.result c.new-search.result made.known made.visits made.waiting

pub run-requires-clause-order : goal.run-requires-clause-order
run-requires-clause-order g c =
    let M = g.M.World.objects c.args.network.now.world.now in
    c.listed_contexts.ensures.order M (map_of c.args.blocks.now) c.requires.graph

pub run-requires-clause-targets : goal.run-requires-clause-targets
run-requires-clause-targets g c =
    let M = g.M.World.objects c.args.network.now.world.now in
    let P = g.P.Profile.rules c.args.network.now.profile in
    let m = map_of c.args.blocks.now in
    has_targets M P (contexts_in m) (c.listed_contexts.ensures.spots M m c.requires.graph)

pub run-requires-clause-closed : goal.run-requires-clause-closed
run-requires-clause-closed g c =
    first_closed (g.F.Phases.rules c.args.phases.now) (contexts_in (map_of c.args.blocks.now))
    c.new-search.result c.begin.new.search c.args.ends.now.goals
    c.new-search.ensures.visits c.in_ok-begin.ensures.grows

pub along-requires-clause-descend : goal.along-requires-clause-descend
along-requires-clause-descend g c =
    subst (λ (l : List TreeVisit). Descend l) (sym c.visits.ensures)
    (descends (g.F.Phases.rules c.args.phases.now) (contexts_in (map_of c.args.blocks.now)) c.run.new.search
    c.run.new.search c.in_ok-meeting.ensures.search)

pub along-requires-clause-spelled : goal.along-requires-clause-spelled
along-requires-clause-spelled g c =
    let M = g.M.World.objects c.args.network.now.world.now in
    let P = g.P.Profile.rules c.args.network.now.profile in
    let m = map_of c.args.blocks.now in
    subst (λ (l : List TreeVisit). AreSpelled l) (sym c.visits.ensures)
    (visits_spelled M P (g.F.Phases.rules c.args.phases.now) (contexts_in m)
    c.run.new.search (c.listed_contexts.ensures.spots M m c.requires.graph)
    c.in_ok-meeting.ensures.search)

pub along-requires-clause-place : goal.along-requires-clause-place
along-requires-clause-place g c =
    let F = g.F.Phases.rules c.args.phases.now in
    let L = contexts_in (map_of c.args.blocks.now) in
    let G = c.args.ends.now.goals in
    let vs = c.run.new.search.visits in
    let at = c.in-Some.meeting in
    let met : Meets F G vs at.place at.goal = subst (λ (r : Option Meeting). MatchOption r
    ((k : ℕ) (v : TreeVisit) → slice_get vs k ≡ Some v → IsClosed F L G vs v)
    (λ (m : Meeting). Meets F G vs m.place m.goal)) c.in-Some.is c.in_ok-meeting.ensures.met in
    subst (λ (l : List TreeVisit). at.place < length l) (sym c.visits.ensures)
    (slice_get_within vs at.place met.visit met.at)

pub along-requires-clause-ascends : goal.along-requires-clause-ascends
along-requires-clause-ascends g c =
    let M = g.M.World.objects c.args.network.now.world.now in
    let P = g.P.Profile.rules c.args.network.now.profile in
    let F = g.F.Phases.rules c.args.phases.now in
    let L = contexts_in (map_of c.args.blocks.now) in
    let G = c.args.ends.now.goals in
    let vs = c.run.new.search.visits in
    let at = c.in-Some.meeting in
    let met : Meets F G vs at.place at.goal = subst (λ (r : Option Meeting). MatchOption r
    ((k : ℕ) (v : TreeVisit) → slice_get vs k ≡ Some v → IsClosed F L G vs v)
    (λ (m : Meeting). Meets F G vs m.place m.goal)) c.in-Some.is c.in_ok-meeting.ensures.met in
    let is = met_goal M P F c.args.ends.now.b G vs at.place at.goal c.requires.ends.goals met in
    entry_ascends M P is.way at.goal.piece.now is.listed

pub along-requires-clause-last : goal.along-requires-clause-last
along-requires-clause-last g c =
    let M = g.M.World.objects c.args.network.now.world.now in
    let P = g.P.Profile.rules c.args.network.now.profile in
    let F = g.F.Phases.rules c.args.phases.now in
    let L = contexts_in (map_of c.args.blocks.now) in
    let G = c.args.ends.now.goals in
    let vs = c.run.new.search.visits in
    let at = c.in-Some.meeting in
    let met : Meets F G vs at.place at.goal = subst (λ (r : Option Meeting). MatchOption r
    ((k : ℕ) (v : TreeVisit) → slice_get vs k ≡ Some v → IsClosed F L G vs v)
    (λ (m : Meeting). Meets F G vs m.place m.goal)) c.in-Some.is c.in_ok-meeting.ensures.met in
    let is = met_goal M P F c.args.ends.now.b G vs at.place at.goal c.requires.ends.goals met in
    goal_within M P c.args.ends.now.b met.arc.piece at.goal is

pub returns-in-Some : goal.returns-in-Some
returns-in-Some g c =
    let M = g.M.World.objects c.args.network.now.world.now in
    let P = g.P.Profile.rules c.args.network.now.profile in
    let blocks = map_of c.args.blocks.now in
    let L = contexts_in blocks in
    let spots = c.listed_contexts.ensures.spots M blocks c.requires.graph in
    let F = g.F.Phases.rules c.args.phases.now in
    let G = c.args.ends.now.goals in
    let vs = c.run.new.search.visits in
    let at = c.in-Some.meeting in
    let met : Meets F G vs at.place at.goal = subst (λ (r : Option Meeting). MatchOption r
    ((k : ℕ) (v : TreeVisit) → slice_get vs k ≡ Some v → IsClosed F L G vs v)
    (λ (m : Meeting). Meets F G vs m.place m.goal)) c.in-Some.is c.in_ok-meeting.ensures.met in
    let S = c.deref.result.now in
    let a = c.args.ends.now.a in
    let b = c.args.ends.now.b in
    let d = c.in_ok-along-in-Some.field-0 in
    let one = c.one_name.ensures.pieces M in
    let from = subst (λ (l : List Begin). AreStarts M P a l) (sym c.deref.ensures.value) c.requires.ends.starts in
    let begun = still_begun F L c.begin.new.search c.run.new.search S c.in_ok-begin.ensures.begun
    c.in_ok-meeting.ensures.begun in
    let route : IsRoute vs at.place at.goal d = subst (λ (l : List TreeVisit). IsRoute l at.place at.goal d)
    c.visits.ensures c.in_ok-along-in-Some.ensures in
    let r = driven M P F vs a route.first one L spots c.run.new.search refl S from
    c.in_ok-meeting.ensures.search begun route.chain in
    led_along M P F vs a route.first one b G c.requires.ends.goals route.places at.place at.goal r met d route.is

pub returns : goal.returns
returns g c =
    let M = g.M.World.objects c.args.network.now.world.now in
    let P = g.P.Profile.rules c.args.network.now.profile in
    let blocks = map_of c.args.blocks.now in
    let L = contexts_in blocks in
    let spots = c.listed_contexts.ensures.spots M blocks c.requires.graph in
    let F = g.F.Phases.rules c.args.phases.now in
    let G = c.args.ends.now.goals in
    let S = c.deref.result.now in
    let vs = c.run.new.search.visits in
    let a = c.args.ends.now.a in
    let b = c.args.ends.now.b in
    let one = c.one_name.ensures.pieces M in
    let from = subst (λ (l : List Begin). AreStarts M P a l) (sym c.deref.ensures.value) c.requires.ends.starts in
    let closed : (k : ℕ) (v : TreeVisit) → slice_get vs k ≡ Some v → IsClosed F L G vs v
    = subst (λ (r : Option Meeting). MatchOption r
    ((k : ℕ) (v : TreeVisit) → slice_get vs k ≡ Some v → IsClosed F L G vs v)
    (λ (m : Meeting). Meets F G vs m.place m.goal)) c.in-None.is c.in_ok-meeting.ensures.met in
    let started : (s : Begin) → Contains S s → IsVisited vs (first_key F s)
    = λ s has. c.in_ok-meeting.ensures.stays (first_key F s) (c.in_ok-begin.ensures.all s has) in
    let apart : (s : Begin) (g : Goal) → Contains S s → goal_in G s.piece.now.name ≡ Some g → s.first ≤ g.last → ⊥
    = λ s g has. c.requires.apart s g (subst (λ (l : List Begin). Contains l s) c.deref.ensures.value has) in
    let none = none_leads M P F L one spots a b S G vs from c.requires.ends.goals
    c.in_ok-meeting.ensures.search.listed closed started apart in
    (c.requires.ends.from, c.requires.ends.to, none)
