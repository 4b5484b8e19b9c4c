-- One step more was looked at, and all were at the end.
use Rattle.std.proofs.Common.{◌+◌, List, sym, ap, subst, arith, take}
use Rattle.std.proofs.lemmas.List.{take_all}
use Rattle.road_base.specs.declared.ids.WayId.{WayId}
use Rattle.road_base.specs.declared.ids.Step.{Step}
use Rattle.expanded_graph.specs.Near.{HasStepOn}
use Rattle.expanded_graph.specs.Known.{GainsApart}
use Rattle.expanded_graph.proofs.WordsNear.{ways_more, ways_again}
use Rattle.expanded_graph.proofs.words.add_ways.Goals as goal
use Rattle.expanded_graph.proofs.words.add_ways.Goals.{then-not-goes_along+in_ok-add_one_apart, else-not-goes_along}

pub loop-at-preserved : goal.loop-at-preserved
loop-at-preserved c =
    let known = c.args.known.now in
    let steps = c.args.steps.now in
    let i = c.loop-at.at in
    let first = c.args.list.now.items in
    let old = c.loop-at.list.items in
    let inside = c.loop-at-test.true in
    let end = c.loop-at.auto.at-end in
    elim c.if-not-goes_along.branch [
      | then-not-goes_along+in_ok-add_one_apart w ↦
          subst (λ (l : List WayId). GainsApart known (λ v. HasStepOn v (take (i + 1) steps)) first l)
          (ap (λ v. v.items) (sym w.list-is))
          (ways_more known steps i _ first old w.add_one_apart.new.list.items inside c.loop-at.invariant
          w.in_ok-add_one_apart.ensures)
      | else-not-goes_along w ↦
          subst (λ (l : List WayId). GainsApart known (λ v. HasStepOn v (take (i + 1) steps)) first l)
          (ap (λ v. v.items) (sym w.list-is))
          (ways_again known steps i first old inside (c.goes_along.ensures w.if-not-goes_along.false)
          c.loop-at.invariant)
    ]

pub returns : goal.returns
returns c =
    let past = c.loop-at-test.false in
    subst (λ (l : List Step). GainsApart c.args.known.now (λ w. HasStepOn w l) c.args.list.now.items
    c.loop-at.list.items)
    (take_all c.loop-at.at c.args.steps.now (omega arith)) c.loop-at.invariant
