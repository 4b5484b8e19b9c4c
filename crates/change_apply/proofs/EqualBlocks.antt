-- Equal names, places and arcs.
use Rattle.std.proofs.Common.{rules, ◌≡◌, true}
use Rattle.std.proofs.lemmas.Bool.{and_parts, and_from}
use Rattle.std.proofs.lemmas.Bool.Decides.{Decides-int_eq}
use Rattle.std.specs.Bool.{Decides}
use Rattle.road_base.proofs.EqualPlaces.{equal_places}
use Rattle.road_model.specs.declared.lists.PieceName.{PieceName}
use Rattle.road_model.specs.declared.lists.Place.{Place}
use Rattle.road_model.specs.declared.lists.TurnArc.{TurnArc}
use Rattle.road_model.specs.contracts.lists.PieceNamePartialEq.TheImpl as name
use Rattle.road_model.specs.contracts.lists.PlacePartialEq.TheImpl as place
use Rattle.road_model.specs.contracts.lists.TurnArcPartialEq.TheImpl as arc

pub names_decide : (a b : PieceName) → Decides (name.eq-value.it a b) (a ≡ b)
names_decide a b = search rules

pub places_decide : (a b : Place) → Decides (place.eq-value.it a b) (a ≡ b)
places_decide a b = (to, from)
  where
    to : place.eq-value.it a b ≡ true → a ≡ b
    to e =
        let parts = and_parts _ _ e in
        let at = and_parts _ _ parts.1 in
        let location : a.location ≡ b.location = equal_places a.location b.location
        ((Decides-int_eq a.location.lon b.location.lon).0 at.0)
        ((Decides-int_eq a.location.lat b.location.lat).0 at.1) in
        λ i. record {
          node = record { 0 = (Decides-int_eq a.node.0 b.node.0).0 parts.0 i };
          location = location i;
        }

    from : a ≡ b → place.eq-value.it a b ≡ true
    from e =
        and_from _ _ ((Decides-int_eq a.node.0 b.node.0).1 (λ i. (e i).node.0))
        (and_from _ _ ((Decides-int_eq a.location.lon b.location.lon).1 (λ i. (e i).location.lon))
        ((Decides-int_eq a.location.lat b.location.lat).1 (λ i. (e i).location.lat)))

pub arcs_decide : (a b : TurnArc) → Decides (arc.eq-value.it a b) (a ≡ b)
arcs_decide a b = search rules
