use Rattle.std.proofs.Common.{◌≡◌, ◌++◌, ◌∷◌, option_copied, ap, subst}
use Rattle.layered_maps.specs.Walks.{IsNext}
use Rattle.object_store.proofs.KeptPairs.{one_copied, all_copied}
use Rattle.object_store.proofs.objects.walked.Goals as goal

pub loop-event-init : goal.loop-event-init
loop-event-init c = ap (λ l. l ++ c.args.walk) c.in_ok-list.ensures.items

pub loop-event-preserved : goal.loop-event-preserved
loop-event-preserved c =
    let split : c.loop-event.rest ≡ c.in-Some.event.now ∷ c.next.new.self =
    subst (λ o. IsNext o c.loop-event.rest c.next.new.self) (ap option_copied c.in-Some.is) c.next.ensures in
    one_copied c.loop-event.list.items _ c.loop-event.rest c.next.new.self c.args.walk c.in-Some.event.now split
    c.loop-event.invariant c.in_ok-add_copy.ensures

pub returns : goal.returns
returns c =
    let end = subst (λ o. IsNext o c.loop-event.rest c.next.new.self) (ap option_copied c.in_default.is) c.next.ensures
    in
    all_copied c.loop-event.list.items c.loop-event.rest c.args.walk end.0 c.loop-event.invariant
