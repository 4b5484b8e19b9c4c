use Rattle.std.proofs.Common.{refl, sym, ◌∙◌}
use Rattle.std.proofs.lemmas.Result.{on_ok_weaker}
use Rattle.graph_blocks.specs.Lent.{map_of}
use Rattle.context_search.specs.declared.marks.Origin.TheVariants.{Follows}
use Rattle.context_search.specs.Listed.{contexts_in}
use Rattle.context_search.proofs.SearchMarks.{marked_grows, marked_keeps, marked_visited, marked_begun, follow_comes}
use Rattle.context_search.proofs.SearchMarks.{follow_passes, follow_stops, grows_same, begun_same, both_ok}
use Rattle.context_search.proofs.following.follow.Goals as goal

pub target-requires-clause-listed : goal.target-requires-clause-listed
target-requires-clause-listed g c = c.requires.search.listed c.args.place c.at-visit.result c.at-visit.ensures

pub target-requires-clause-has : goal.target-requires-clause-has
target-requires-clause-has g c = c.requires.has c.at-visit.result c.at-visit.ensures

pub returns-in-Some-clause-search : goal.returns-in-Some-clause-search
returns-in-Some-clause-search g c =
    let F = g.F.Phases.rules c.args.phases.now in
    let L = contexts_in (map_of c.args.blocks.now) in
    let m = c.args.search.now in
    let n = c.mark.new.self in
    let spot = c.in_ok-spot.spot in
    let phase = c.in-Some.phase in
    let to = c.in_ok-spot.ensures in
    both_ok c.mark.result (λ known is. marked_keeps spot phase (Follows c.args.place) m n is F L c.requires.search known
    to.listed (follow_comes F m c.args.place c.at-visit.result c.args.arc spot phase c.requires.place
    c.at-visit.ensures c.requires.has to.named (sym c.go.ensures ∙ c.in-Some.is)))
    c.mark.ensures.known c.mark.ensures.marked

pub returns-in-Some-clause-grows : goal.returns-in-Some-clause-grows
returns-in-Some-clause-grows g c = on_ok_weaker _
    (λ is. marked_grows c.in_ok-spot.spot c.in-Some.phase (Follows c.args.place) c.args.search.now c.mark.new.self is
    (contexts_in (map_of c.args.blocks.now)) c.in_ok-spot.ensures.listed) c.mark.ensures.marked

pub returns-in-Some-clause-begun : goal.returns-in-Some-clause-begun
returns-in-Some-clause-begun g c = on_ok_weaker _
    (λ is. marked_begun c.in_ok-spot.spot c.in-Some.phase (Follows c.args.place) c.args.search.now
    c.mark.new.self is c.args.place refl) c.mark.ensures.marked

pub returns-in-Some-clause-passed : goal.returns-in-Some-clause-passed
returns-in-Some-clause-passed g c =
    let F = g.F.Phases.rules c.args.phases.now in
    let L = contexts_in (map_of c.args.blocks.now) in
    let m = c.args.search.now in
    let spot = c.in_ok-spot.spot in
    let phase = c.in-Some.phase in
    on_ok_weaker _ (λ is. follow_passes F L m c.mark.new.self.visits c.args.place c.at-visit.result c.args.arc
    spot phase c.at-visit.ensures c.in_ok-spot.ensures.listed c.in_ok-spot.ensures.named
    (sym c.go.ensures ∙ c.in-Some.is)
    (marked_visited spot phase (Follows c.args.place) m c.mark.new.self is)) c.mark.ensures.marked

pub returns-in-None-clause-grows : goal.returns-in-None-clause-grows
returns-in-None-clause-grows g c = grows_same (contexts_in (map_of c.args.blocks.now)) c.args.search.now

pub returns-in-None-clause-begun : goal.returns-in-None-clause-begun
returns-in-None-clause-begun g c = begun_same c.args.search.now

pub returns-in-None-clause-passed : goal.returns-in-None-clause-passed
returns-in-None-clause-passed g c = follow_stops (g.F.Phases.rules c.args.phases.now)
    (contexts_in (map_of c.args.blocks.now)) c.args.search.now c.args.search.now.visits c.args.place c.at-visit.result
    c.args.arc c.in_ok-spot.spot c.at-visit.ensures c.in_ok-spot.ensures.listed c.in_ok-spot.ensures.named
    (sym c.go.ensures ∙ c.in-None.is)
