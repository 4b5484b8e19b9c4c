-- One way more, or one that stands before and adds none.
use Rattle.std.proofs.Common.{refl, ap, ◌∙◌}
use Rattle.restrictions.proofs.EndLists.{ends_again, ends_more}
use Rattle.restrictions.proofs.end_steps.ends_of.Goals as goal
use Rattle.restrictions.proofs.end_steps.ends_of.Goals.{then-not-stands_before+in_ok-add_ends, else-not-stands_before}

pub loop-at-preserved : goal.loop-at-preserved
loop-at-preserved g c = elim c.if-not-stands_before.branch [
  | then-not-stands_before+in_ok-add_ends w ↦
      ap (λ s. s.items) w.steps-is
      ∙ (w.in_ok-add_ends.ensures
      ∙ ends_more (g.M.World.objects c.args.world.now) c.args.side c.args.node c.args.ways.now c.loop-at.at _
      c.loop-at.steps.items c.loop-at-test.true c.loop-at.invariant)
  | else-not-stands_before w ↦
      ap (λ s. s.items) w.steps-is
      ∙ ends_again (g.M.World.objects c.args.world.now) c.args.side c.args.node c.args.ways.now c.loop-at.at
      c.loop-at.steps.items c.loop-at-test.true (w.if-not-stands_before.ensures refl) c.loop-at.invariant
]
