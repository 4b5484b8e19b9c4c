use Rattle.std.proofs.Common.{◌≡◌, Some, slice_get, sym, subst, arith, ◌∙◌}
use Rattle.ordered_lists.proofs.ListPlaces.{some_at}
use Rattle.least_cost.specs.Trails.{IsTrail}
use Rattle.least_cost.proofs.LeastRoutes.{trail_more, trail_ends}
use Rattle.least_cost.proofs.trails.way_back.Goals as goal

pub loop-before-preserved : goal.loop-before-preserved
loop-before-preserved c =
    let visits = c.args.visits.now in
    let at = c.loop-before.at in
    let v = some_at visits at c.loop-before.invariant.within in
    let origin = c.origin_at.ensures v.0 v.1 ∙ c.in-Follows.is in
    let below = c.requires.descend at c.in-Follows.before v.0 v.1 origin in
    record {
      within = omega (arith, below, c.loop-before.invariant.within);
      trail = λ first ks. trail_more visits first ks at c.in-Follows.before c.args.place v.0 c.loop-before.places.items
          c.push.new.self.items v.1 origin c.in_ok-push.ensures.items c.loop-before.invariant.trail;
    }

pub loop-before-smaller : goal.loop-before-smaller
loop-before-smaller c =
    let v = some_at c.args.visits.now c.loop-before.at c.loop-before.invariant.within in
    let origin = c.origin_at.ensures v.0 v.1 ∙ c.in-Follows.is in
    let below = c.requires.descend c.loop-before.at c.in-Follows.before v.0 v.1 origin in
    omega (arith, below)

pub returns : goal.returns
returns c =
    let visits = c.args.visits.now in
    let at = c.loop-before.at in
    let v = some_at visits at c.loop-before.invariant.within in
    let origin = c.origin_at.ensures v.0 v.1 ∙ c.in_default.is in
    let trail = trail_ends visits c.in_default.field-0 at c.args.place v.0 c.loop-before.places.items
    c.push-2.new.self.items
    v.1 origin c.in_ok-push-2.ensures.items c.loop-before.invariant.trail in
    record {
      trail = subst (λ f. IsTrail visits f c.reverse.new.self.items c.args.place)
          (sym (c.first_step.ensures c.in_default.field-0 (sym (c.origin_at-2.ensures v.0 v.1) ∙ origin)))
          (subst (λ l. IsTrail visits c.in_default.field-0 l c.args.place) (sym c.reverse.ensures.items) trail);
    }
