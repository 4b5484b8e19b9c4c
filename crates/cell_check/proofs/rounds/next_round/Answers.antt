use Rattle.std.proofs.Common.{List, subst, ◌∙◌}
use Rattle.std.proofs.lemmas.Result.{on_ok_weaker}
use Rattle.cell_check.specs.declared.search.Reached.{Reached}
use Rattle.cell_check.specs.Searches.{Finds, IsLinkedTo}
use Rattle.cell_check.proofs.rounds.next_round.Goals as goal

pub returns : goal.returns
returns g c =
    let M = g.M.World.objects c.args.world.now in
    let e = c.take_frontier-frontier.new.self in
    on_ok_weaker c.follow_all.result
    (λ h. (
      e,
      c.take_frontier-frontier.ensures.starts,
      c.take_frontier-frontier.ensures.frontier,
      subst (λ (l : List Reached). Finds e c.follow_all.new.search (IsLinkedTo M l))
          (c.as_slice.ensures.value ∙ c.take_frontier-frontier.ensures.taken) h,
    )) c.follow_all.ensures
