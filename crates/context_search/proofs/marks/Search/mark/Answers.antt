use Rattle.std.proofs.Common.{◌≡◌, length, arith, sym, ap, ◌∙◌, subst}
use Rattle.std.specs.Ordering.{ordering_then, nat_cmp}
use Rattle.std.specs.Cmp.Lexicographic.{slice_cmp}
use Rattle.context_search.specs.declared.marks.TreeVisit.{TreeVisit}
use Rattle.context_search.specs.Visits.{Marks, AreKnown, is_visited, names_in, state_key}
use Rattle.context_search.proofs.SearchKnown.{told, known_more, marked_before, marked_anew}
use Rattle.context_search.proofs.marks.Search.mark.Goals as goal

pub returns-then-contains-clause-marked : goal.returns-then-contains-clause-marked
returns-then-contains-clause-marked c =
    let o = c.name_order.ensures in
    let m = c.args.self.now in
    let k = state_key c.args.spot c.args.phase in
    let before = told _
    (λ a b i. ordering_then (o.by_cmp a.piece b.piece i)
    (ordering_then (slice_cmp (λ x y. o.by_cmp x y i) a.before.now b.before.now) (nat_cmp a.phase b.phase)))
    m c.self.inside.known (ap (λ (z : Marks). z.known) c.self.view_is) c.requires c.name_of-name.result k
    c.name_of-name.ensures c.contains.result c.contains.ensures in
    marked_before m c.args.spot c.args.phase c.args.origin (before ∙ c.if-contains.true)

pub returns-clause-known : goal.returns-clause-known
returns-clause-known c =
    let o = c.name_order.ensures in
    let inside = c.self.inside in
    let v : TreeVisit = record {
      spot = c.args.spot;
      phase = c.args.phase;
      origin = c.args.origin;
      driven = c.saturating_add-driven.result;
    } in
    let known = subst (λ (z : Marks). AreKnown z) (sym c.self.view_is) c.requires in
    λ q. known_more _
    (λ a b i. ordering_then (o.by_cmp a.piece b.piece i)
    (ordering_then (slice_cmp (λ x y. o.by_cmp x y i) a.before.now b.before.now) (nat_cmp a.phase b.phase)))
    inside.known c.insert.new.self inside.visits.items v c.name_of-name.result c.in_ok-insert.ensures.updates.0
    c.name_of-name.ensures known q
    ∙ ap (λ l. is_visited l (names_in q)) (sym c.in_ok-push-2.ensures.items)

pub returns-clause-marked : goal.returns-clause-marked
returns-clause-marked c =
    let o = c.name_order.ensures in
    let m = c.args.self.now in
    let k = state_key c.args.spot c.args.phase in
    let before = told _
    (λ a b i. ordering_then (o.by_cmp a.piece b.piece i)
    (ordering_then (slice_cmp (λ x y. o.by_cmp x y i) a.before.now b.before.now) (nat_cmp a.phase b.phase)))
    m c.self.inside.known (ap (λ (z : Marks). z.known) c.self.view_is) c.requires c.name_of-name.result k
    c.name_of-name.ensures c.contains.result c.contains.ensures in
    let visits = c.self.inside.visits in
    let count : c.len.result ≡ length visits.items = omega (arith, c.len.ensures) in
    marked_anew m _ c.args.spot c.args.phase c.args.origin c.saturating_add-driven.result c.len.result visits.items
    c.self.inside.frontier c.ranges.phase.fits (ap (λ (z : Marks). z.visits) c.self.view_is)
    (ap (λ (z : Marks). z.waiting) c.self.view_is) count c.in_ok-push-2.ensures.items c.in_ok-push.ensures
    (before ∙ c.if-contains.false)
