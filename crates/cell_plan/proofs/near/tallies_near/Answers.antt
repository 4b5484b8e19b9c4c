use Rattle.std.proofs.Common.{◌+◌, ◌∙◌, ap, sym, subst, take}
use Rattle.cell_plan.specs.declared.sums.Tally.{Tally}
use Rattle.cell_plan.specs.Dividing.{KeepsNear}
use Rattle.cell_plan.proofs.NearTallies.{keeps_more, keeps_same}
use Rattle.cell_plan.proofs.near.tallies_near.Goals as goal
use Rattle.cell_plan.proofs.near.tallies_near.Goals.{then-is_near+in_ok-push, else-is_near}

none : Tally
none = record { column = 0; row = 0; count = 0 }

pub loop-tally-preserved : goal.loop-tally-preserved
unfolding none
loop-tally-preserved c =
    let square = c.args.square in
    let touched = c.args.touched in
    let all = c.args.tallies.now in
    let i = c.loop-tally.tally-index in
    let kept = c.loop-tally.near.items in
    elim c.if-is_near.branch [
      | then-is_near+in_ok-push w ↦
          keeps_more square touched all kept c.if-is_near.near.items i none c.loop-tally-test.true
          (ap (λ v. v.items) w.near-is ∙ w.in_ok-push.ensures.items) c.loop-tally.invariant
      | else-is_near w ↦ subst (λ v. KeepsNear square touched (take (i + 1) all) v.items) (sym w.near-is)
          (keeps_same square touched all kept i none c.loop-tally-test.true (sym c.is_near.ensures ∙ w.if-is_near.false)
          c.loop-tally.invariant)
    ]
