use Rattle.std.proofs.Common.{sym, subst, Contains}
use Rattle.std.proofs.lemmas.List.Elements.{Contains-get_or}
use Rattle.ordered_lists.proofs.ListMembers.{contains_none}
use Rattle.context_search.specs.declared.ends.Begin.{Begin}
use Rattle.least_cost.specs.CostVisits.{IsWithinBy}
use Rattle.least_cost.proofs.LeastMeetings.{more_within, all_within}
use Rattle.least_cost.proofs.beginning.least_within.Goals as goal

pub loop-start-init : goal.loop-start-init
loop-start-init c = record { within = λ s g has. absurd (contains_none s has); found = tt }

pub loop-start-preserved : goal.loop-start-preserved
loop-start-preserved c =
    let starts = c.args.starts.now in
    let s = c.start-item.result in
    let i = c.loop-start.start-index in
    let has : Contains starts s = subst (λ (t : Begin). Contains starts t) (sym c.start-item.is)
    (Contains-get_or starts i s c.loop-start-test.true) in
    let now = c.within_piece-best.ensures in
    record {
      within = more_within c.args.goals.now starts i s c.loop-start.best c.within_piece-best.result
          c.loop-start-test.true
          (subst (λ (t : Begin). IsWithinBy c.args.goals.now t c.loop-start.best c.within_piece-best.result)
          c.start-item.is now)
          c.loop-start.invariant.within;
      found = now.from starts has c.loop-start.invariant.found;
    }

pub returns-clause-within : goal.returns-clause-within
returns-clause-within c = all_within c.args.goals.now c.args.starts.now c.loop-start.start-index c.loop-start.best
    c.loop-start-test.false c.loop-start.invariant.within
