use Rattle.std.proofs.Common.{◌∙◌, ap, sym, subst, List}
use Rattle.std.proofs.lemmas.Result.{on_ok_weaker, on_err_weaker}
use Rattle.road_base.specs.declared.location.Location.{Location}
use Rattle.cell_plan.specs.CountedPlaces.{HasCounted}
use Rattle.cell_plan.specs.Sums.{tallied}
use Rattle.cell_plan.proofs.CountedMore.{counted_more}
use Rattle.cell_plan.proofs.counts.PlaceCounts.add.Goals as goal
use Rattle.cell_plan.proofs.counts.PlaceCounts.add.Goals.{then-is_due, else-is_due}

-- what was put together before
settled : (c : goal.After-add_tally) (places : List Location) → HasCounted places c.args.self.now
    → HasCounted places c.if-is_due.self
settled c places had = elim c.if-is_due.branch [
  | then-is_due w ↦ subst (HasCounted places) (sym w.self-is) (w.settle.ensures places had)
  | else-is_due w ↦ subst (HasCounted places) (sym w.self-is) had
]

pub returns-clause-ok : goal.returns-clause-ok
returns-clause-ok c = on_ok_weaker c.add_tally.result
    (λ added places had. record {
      each = λ wanted. added wanted
          ∙ counted_more wanted c.if-is_due.self.grid.side c.if-is_due.self.tallies.items c.tally.result places
          c.args.place
          ((settled c places had).each wanted) c.tally.ensures.column c.tally.ensures.row c.tally.ensures.count;
    }) c.add_tally.ensures.ok

pub returns-clause-err : goal.returns-clause-err
returns-clause-err c = on_err_weaker c.add_tally.result
    (λ same places had. record { each = λ wanted. ap (tallied wanted) same ∙ (settled c places had).each wanted })
    c.add_tally.ensures.err
