use Rattle.std.proofs.Common.{◌∷◌, IsTrue, Some, map, option_copied, refl, sym, ap, ◌∙◌, subst}
use Rattle.ordered_lists.specs.Orders.{rises}
use Rattle.layered_maps.specs.Walks.{IsDue, IsNotDue, IsTaken}
use Rattle.layered_maps.proofs.WalkSteps.{left, step_floor, step_put, step_gone, still_rises}
use Rattle.layered_maps.proofs.walk.Walk.next.Goals as goal

pub loop-key-init : goal.loop-key-init
loop-key-init g c = (c.self.invariant.0, c.self.invariant.1, refl)

pub invariant_of-self : goal.invariant_of-self
invariant_of-self g c =
    let R = g.K.Ord.cmp in
    let key = g.V.Keyed.key in
    let rest = c.loop-key.self-inside.rest in
    let k = c.in-Some.key in
    let due = subst (λ least. IsDue key R least k rest) c.key.ensures.key c.in-Some.ensures.some in (
      still_rises key R g.met.K.Ord.total c.loop-key.invariant.1 c.loop-key.self-inside.changes c.take.new.self rest
          c.behind-self-inside.result k c.loop-key.invariant.0 c.key.ensures.rising due
          c.behind-self-inside.ensures,
      c.loop-key.invariant.1,
    )

pub returns-in-Some-Some : goal.returns-in-Some-Some
returns-in-Some-Some g c =
    let R = g.K.Ord.cmp in
    let key = g.V.Keyed.key in
    let changes = c.loop-key.self-inside.changes in
    let rest = c.loop-key.self-inside.rest in
    let k = c.in-Some.key in
    let due = subst (λ least. IsDue key R least k rest) c.key.ensures.key c.in-Some.ensures.some in
    let taken = subst (λ x. IsTaken k (Some x) changes c.take.new.self) c.in-Some-Some.field-0-is
    (subst (λ o. IsTaken k o changes c.take.new.self) (ap option_copied c.in-Some-Some.is) c.take.ensures) in
    sym c.self.view_is ∙ sym c.loop-key.invariant.2
    ∙ step_put key R g.met.K.Ord.total c.loop-key.invariant.1 changes c.take.new.self rest
    c.behind-self-inside.result k c.loop-key.invariant.0 c.key.ensures.rising due c.behind-self-inside.ensures
    c.in-Some-Some.value taken

pub loop-key-preserved : goal.loop-key-preserved
loop-key-preserved g c =
    let R = g.K.Ord.cmp in
    let key = g.V.Keyed.key in
    let changes = c.loop-key.self-inside.changes in
    let rest = c.loop-key.self-inside.rest in
    let k = c.in-Some.key in
    let due = subst (λ least. IsDue key R least k rest) c.key.ensures.key c.in-Some.ensures.some in
    let taken = subst (λ x. IsTaken k (Some x) changes c.take.new.self) c.in-Some-None.field-0-is
    (subst (λ o. IsTaken k o changes c.take.new.self) (ap option_copied c.in-Some-None.is) c.take.ensures) in (
      still_rises key R g.met.K.Ord.total c.loop-key.invariant.1 changes c.take.new.self rest
          c.behind-self-inside.result k c.loop-key.invariant.0 c.key.ensures.rising due
          c.behind-self-inside.ensures,
      c.loop-key.invariant.1,
      sym (step_gone key R g.met.K.Ord.total c.loop-key.invariant.1 changes c.take.new.self rest
          c.behind-self-inside.result k c.loop-key.invariant.0 c.key.ensures.rising due
          c.behind-self-inside.ensures taken) ∙ c.loop-key.invariant.2,
    )

pub returns-in-Some-split : goal.returns-in-Some-split
returns-in-Some-split g c =
    let R = g.K.Ord.cmp in
    let key = g.V.Keyed.key in
    let changes = c.loop-key.self-inside.changes in
    let value = c.in-Some-split.value.now in
    let behind = c.in-Some-split.behind in
    let split = c.in-Some-split.ensures.some in
    let none = subst (λ rest. IsNotDue key R c.key.result rest) split c.in_default.ensures.none in
    sym c.self.view_is ∙ sym c.loop-key.invariant.2 ∙ ap (left key R changes) split
    ∙ step_floor key R g.met.K.Ord.total c.loop-key.invariant.1 changes value behind c.key.ensures.rising
    (subst (λ rest. IsTrue (rises R (map key rest))) split c.loop-key.invariant.0)
    (subst (λ least. IsNotDue key R least (value ∷ behind)) c.key.ensures.key none)
