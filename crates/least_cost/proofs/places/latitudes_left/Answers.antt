use Rattle.std.proofs.Common.{◌≡◌, ◌∙◌, sym, ap, Option, Some}
use Rattle.least_cost.specs.Latitudes.{latitudes_from}
use Rattle.road_model.specs.declared.lists.Place.{Place}
use Rattle.std.specs.Prelude.{option_copied, slice_get, length, ◌-◌}
use Rattle.least_cost.proofs.places.latitudes_left.Goals as goal

pub returns-in-Some : goal.returns-in-Some
returns-in-Some c =
    let places = c.args.places.now in
    let last : slice_get places (length places - 1) ≡ Some c.in-Some.place.now
    = sym c.last.ensures.value ∙ ap option_copied c.in-Some.is in
    c.lat_difference.ensures.is ∙ sym (ap (λ (o : Option Place). latitudes_from o c.args.to) last)
