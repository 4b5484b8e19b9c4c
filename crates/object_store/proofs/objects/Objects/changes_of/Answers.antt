use Rattle.std.proofs.Common.{◌≡◌, ◌++◌, [], filter, ap, ◌∙◌, arith}
use Rattle.std.proofs.lemmas.List.{nil_from_length}
use Rattle.object_store.specs.Keeping.{puts, stands}
use Rattle.object_store.proofs.KeptPairs.{one_put, all_put}
use Rattle.object_store.proofs.objects.Objects.changes_of.Goals as goal

pub loop-event-init : goal.loop-event-init
loop-event-init c =
    ap (λ l. l ++ puts (filter (stands c.args.self.now) c.into_iter-event-iterator.result.rest.items))
    c.new-changes.ensures.items
    ∙ ap (λ l. puts (filter (stands c.args.self.now) l)) c.into_iter-event-iterator.ensures.into_iter_gives.0

pub loop-event-preserved : goal.loop-event-preserved
loop-event-preserved c =
    one_put (stands c.args.self.now) _ c.next.new.self.rest.items _ c.loop-event.changes.items _ _
    c.in-Some.ensures.steps.0 c.loop-event.invariant c.in_ok-add_change.ensures

pub returns : goal.returns
returns c =
    let none : c.loop-event.event-iterator.rest.items ≡ [] = nil_from_length _ (omega (
      arith,
      c.in-None.ensures.steps.0,
      c.loop-event.event-iterator.rest.ok,
    )) in
    all_put (stands c.args.self.now) c.loop-event.event-iterator.rest.items _ _ none c.loop-event.invariant
