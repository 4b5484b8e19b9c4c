use Rattle.std.proofs.Common.{◌≡◌, ◌++◌, ◌∷◌, [], option_copied, ap, subst}
use Rattle.std.specs.Prelude.{filter_map}
use Rattle.layered_maps.specs.Walks.{IsNext}
use Rattle.back_references.proofs.HighwayLists.{in_event, one_told, all_told}
use Rattle.back_references.proofs.highways.highways_among.Goals as goal

pub loop-entry-init : goal.loop-entry-init
loop-entry-init c = ap (λ l. l ++ filter_map in_event c.args.entries) c.new-ways.ensures.items

pub loop-entry-preserved : goal.loop-entry-preserved
loop-entry-preserved c =
    let split : c.loop-entry.rest ≡ c.in-Some.entry.now ∷ c.next.new.self =
    subst (λ o. IsNext o c.loop-entry.rest c.next.new.self) (ap option_copied c.in-Some.is) c.next.ensures in
    one_told c.loop-entry.ways.items _ _ c.loop-entry.rest c.next.new.self c.in-Some.entry.now split
    c.loop-entry.invariant c.in_ok-add_highway.ensures
