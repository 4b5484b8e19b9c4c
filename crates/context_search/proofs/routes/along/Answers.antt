use Rattle.std.proofs.Common.{◌≡◌, ◌+◌, ◌-◌, ◌++◌, ◌∙◌, ap, arith, subst, take, drop, Contains, List, ℕ}
use Rattle.std.specs.List.{flat_map}
use Rattle.context_search.specs.Routes.{spelled, steps_at}
use Rattle.context_search.proofs.SearchRoutes.{chain_within}
use Rattle.context_search.proofs.routes.along.Goals as goal

pub add_whole-requires-clause-within : goal.add_whole-requires-clause-within
add_whole-requires-clause-within c k has =
    chain_within c.args.visits.now c.in_ok-first.first c.in_ok-first.ensures.chain
    k (subst (λ (l : List ℕ). Contains l k) c.deref.ensures.value has)

pub returns : goal.returns
returns c =
    let visits = c.args.visits.now in
    let goal = c.args.meeting.now.goal in
    let last : goal.last + 1 - 0 ≡ goal.last + 1 = omega arith in
    let whole : c.add_whole.new.steps.items ≡ flat_map (steps_at visits) c.in_ok-first.places.items
    = c.in_ok-add_whole.ensures ∙ (λ i. c.new-steps.ensures.items i ++ flat_map (steps_at visits)
    (c.deref.ensures.value i)) in
    let all = c.deref-2.ensures.value ∙ c.in_ok-add_part.ensures
    ∙ (λ i. whole i ++ take (last i) (spelled goal.piece.now)) in
    record {
      first = c.in_ok-first.first;
      places = c.in_ok-first.places.items;
      chain = c.in_ok-first.ensures.chain;
      is = c.from_list.ensures ∙ c.in_ok-steps.ensures ∙ ap (drop c.in_ok-first.first) all;
    }
