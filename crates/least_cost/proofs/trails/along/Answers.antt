use Rattle.std.proofs.Common.{◌≡◌, ◌+◌, ◌++◌, subst, sym, ◌∙◌, ap, Contains, List, ℕ, take, drop}
use Rattle.std.specs.List.{flat_map}
use Rattle.context_search.specs.Routes.{spelled}
use Rattle.least_cost.specs.Trails.{steps_at}
use Rattle.least_cost.proofs.LeastRoutes.{trail_within}
use Rattle.least_cost.proofs.trails.along.Goals as goal

pub add_whole-requires-clause-within : goal.add_whole-requires-clause-within
add_whole-requires-clause-within c k has =
    trail_within c.args.visits.now c.in_ok-first.first c.in_ok-first.ensures.trail
    k (subst (λ (l : List ℕ). Contains l k) c.deref.ensures.value has)

pub returns : goal.returns
returns c =
    let visits = c.args.visits.now in
    let goal_steps = take (c.args.goal.now.last + 1) (spelled c.args.goal.now.piece.now) in
    let whole : c.add_whole.new.steps.items ≡ flat_map (steps_at visits) c.in_ok-first.places.items
    = c.in_ok-add_whole.ensures
    ∙ (λ i. c.new-steps.ensures.items i ++ flat_map (steps_at visits) (c.deref.ensures.value i)) in
    record {
      first = c.in_ok-first.first;
      places = c.in_ok-first.places.items;
      trail = c.in_ok-first.ensures.trail;
      is = c.from_list.ensures ∙ c.in_ok-steps_from.ensures
          ∙ ap (drop c.in_ok-first.first) (c.deref-2.ensures.value ∙ c.in_ok-add_up_to.ensures
          ∙ ap (λ l. l ++ goal_steps) whole);
    }
