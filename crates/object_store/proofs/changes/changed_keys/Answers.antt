use Rattle.std.proofs.Common.{◌≡◌, ◌+◌, [], ◌∷◌, ◌++◌, List, take, sym, ap, ◌∙◌, subst, take_all}
use Rattle.std.proofs.lemmas.List.{take_more}
use Rattle.road_base.specs.declared.event.Event.{Event}
use Rattle.road_base.specs.Applying.{entry_of}
use Rattle.road_base.specs.Objects.{Objects}
use Rattle.object_store.specs.Listed.{IsInOrder}
use Rattle.object_store.specs.Changes.{Alters}
use Rattle.object_store.proofs.ChangedKeys.{IsPicked, AltersIn, none_picked, picked_one, picked_not, take_in_order}
use Rattle.object_store.proofs.ChangedKeys.{changed}
use Rattle.object_store.proofs.changes.changed_keys.Goals as goal
use Rattle.object_store.proofs.changes.changed_keys.Goals.{then-alters+in_ok-push, else-alters}

pub loop-event-init : goal.loop-event-init
loop-event-init c = rw c.new-list.ensures.items (none_picked _)

pub loop-event-preserved : goal.loop-event-preserved
loop-event-preserved c =
    let M : Objects = c.args.before.now in
    let xs : List Event = c.args.events.now in
    let e : Event = c.event-item.result in
    let front : List Event = take c.loop-event.event-index xs in
    let step : take (c.loop-event.event-index + 1) xs
    ≡ front ++ e ∷ [] = take_more xs c.loop-event.event-index e c.loop-event-test.true
    ∙ ap (λ z. front ++ z ∷ []) (sym c.event-item.is) in
    let up : IsInOrder (front ++ e ∷ []) = subst IsInOrder step
    (take_in_order (c.loop-event.event-index + 1) xs c.requires) in
    subst (λ l. IsPicked (AltersIn M) l c.if-alters.list.items) (sym step)
    (elim c.if-alters.branch [
      | then-alters+in_ok-push w ↦
          subst (IsPicked (AltersIn M) (front ++ e ∷ []))
          (sym (ap (λ v. v.items) w.list-is ∙ w.in_ok-push.ensures.items))
          (picked_one c.key_order.ensures.total (AltersIn M) front e c.loop-event.list.items up c.loop-event.invariant
          (subst (λ o. Alters o (entry_of e)) c.get.ensures.entry (c.alters.ensures.0 w.if-alters.true)))
      | else-alters w ↦
          subst (IsPicked (AltersIn M) (front ++ e ∷ [])) (sym (ap (λ v. v.items) w.list-is))
          (picked_not (AltersIn M) front e c.loop-event.list.items c.loop-event.invariant
          (λ p. let t = c.alters.ensures.1 (subst (λ o. Alters o (entry_of e)) (sym c.get.ensures.entry) p)
          in let f = w.if-alters.false in cc))
    ])

pub returns : goal.returns
returns c =
    let M : Objects = c.args.before.now in
    let all : take c.loop-event.event-index c.args.events.now
    ≡ c.args.events.now = take_all c.loop-event.event-index c.args.events.now c.loop-event-test.false in
    let picked = subst (λ l. IsPicked (AltersIn M) l c.loop-event.list.items) all c.loop-event.invariant in
    λ N applied. changed c.key_order.ensures.total c.key_order.ensures.ties M N c.args.events.now c.from_list.result
    c.requires (subst (IsPicked (AltersIn M) c.args.events.now) (sym c.from_list.ensures) picked) applied
