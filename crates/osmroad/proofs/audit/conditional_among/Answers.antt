use Rattle.std.proofs.Common.{◌≡◌, ◌++◌, ◌∷◌, ◌∙◌, Option, option_copied, ap, subst}
use Rattle.std.specs.Prelude.{filter_map}
use Rattle.std.specs.Option.{option_to_list}
use Rattle.road_base.specs.declared.event.Event.{Event}
use Rattle.road_base.specs.declared.ids.Key.{Key}
use Rattle.layered_maps.specs.Walks.{IsNext}
use Rattle.osmroad.specs.Audit.{conditional_of}
use Rattle.osmroad.proofs.WalkedEntries.{one_told, all_told}
use Rattle.osmroad.proofs.audit.conditional_among.Goals as goal

abbrev told : Event → Option Key
told e = conditional_of e.key e.body

pub loop-entry-init : goal.loop-entry-init
loop-entry-init c = ap (λ l. l ++ filter_map told c.args.entries) c.new-keys.ensures.items

pub loop-entry-preserved : goal.loop-entry-preserved
loop-entry-preserved c =
    let split : c.loop-entry.rest ≡ c.in-Some.entry.now ∷ c.next.new.self =
    subst (λ o. IsNext o c.loop-entry.rest c.next.new.self) (ap option_copied c.in-Some.is) c.next.ensures in
    one_told told c.loop-entry.keys.items _ _ c.loop-entry.rest c.next.new.self c.in-Some.entry.now split
    c.loop-entry.invariant
    (c.in_ok-add.ensures ∙ ap (λ o. c.loop-entry.keys.items ++ option_to_list o) c.conditional_of.ensures)

pub returns : goal.returns
returns c =
    let end = subst (λ o. IsNext o c.loop-entry.rest c.next.new.self) (ap option_copied c.in_default.is) c.next.ensures
    in
    all_told told c.loop-entry.keys.items _ c.loop-entry.rest end.0 c.loop-entry.invariant
