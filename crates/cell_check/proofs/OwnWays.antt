-- The ways that a cell owns, among all with the key `highway`.
use Rattle.std.proofs.Common.{◌≡◌, true, IsTrue, List, [], ◌∷◌, map, Option, Some, None, Contains}
use Rattle.std.proofs.Common.{refl, ap, sym, subst, ◌∙◌}
use Rattle.std.specs.Prelude.{filter}
use Rattle.std.specs.Cmp.{IsTotalOrder}
use Rattle.std.proofs.lemmas.Bool.{and_parts, and_from, false≢true}
use Rattle.road_base.specs.declared.ids.WayId.{WayId}
use Rattle.road_base.specs.declared.location.Location.{Location}
use Rattle.road_base.specs.declared.objects.Way.{Way}
use Rattle.road_base.specs.Objects.{Objects, way_of}
use Rattle.road_model.specs.Rules.{has_highway}
use Rattle.road_model.specs.Highways.{IsHighway}
use Rattle.ordered_lists.specs.Orders.{Lists, rises}
use Rattle.road_model.specs.Orders.{way_cmp}
use Rattle.ordered_lists.proofs.AscendingLists.{rises_kept}
use Rattle.ordered_lists.proofs.FilteredLists.{contains_filter, contains_from_filter}
use Rattle.map_cells.specs.declared.area.Area.{Area}
use Rattle.map_cells.specs.Owners.{first_place, IsOwn}
use Rattle.cell_check.specs.Owning.{owns, owns_body, lies_in}

pub same_ways : (ws : List WayId) → map (λ w. w) ws ≡ ws
same_ways [] = refl
same_ways (w ∷ ws) = ap (λ l. w ∷ l) (same_ways ws)

module _ (M : Objects) (cell : Area) (w : WayId) where
  from_place : (body : Way) → way_of M w ≡ Some body → has_highway body.tags ≡ true → (o : Option Location)
      → first_place M body.refs ≡ o → lies_in cell o ≡ true → IsOwn M cell w
  from_place body is tagged None first there = absurd (false≢true there)
  from_place body is tagged (Some place) first there = record {
    highway = record { body = body; visible = is; tagged = tagged };
    body = body;
    is = is;
    place = place;
    first = first;
    inside = there;
  }

  from_body : (o : Option Way) → way_of M w ≡ o → owns_body M cell o ≡ true → IsOwn M cell w
  from_body None is own = absurd (false≢true own)
  from_body (Some body) is own =
      let p = and_parts _ _ own in from_place body is p.0 (first_place M body.refs) refl p.1

  pub own_from : owns M cell w ≡ true → IsOwn M cell w
  own_from own = from_body (way_of M w) refl own

  pub own_to : IsOwn M cell w → owns M cell w ≡ true
  own_to own =
      let some : Some own.highway.body ≡ Some own.body = sym own.highway.visible ∙ own.is in
      let same : own.highway.body ≡ own.body = cc in
      ap (owns_body M cell) own.is
      ∙ and_from _ _ (subst (λ (b : Way). has_highway b.tags ≡ true) same own.highway.tagged)
      (ap (lies_in cell) own.first ∙ own.inside)

module _ (M : Objects) (cell : Area) (total : IsTotalOrder way_cmp) where
  pub own_lists : (ways own : List WayId) → IsTrue (rises way_cmp ways)
      → ((w : WayId) → IsHighway M w → Contains ways w) → own ≡ filter (owns M cell) ways
      → Lists (λ w. w) way_cmp (IsOwn M cell) own
  own_lists ways own up all is = subst (Lists (λ w. w) way_cmp (IsOwn M cell)) (sym is) (record {
    ascending = rises_kept (λ w. w) way_cmp total (owns M cell) ways
        (subst (λ (l : List WayId). IsTrue (rises way_cmp l)) (sym (same_ways ways)) up);
    sound = λ w has. own_from M cell w (contains_from_filter (owns M cell) ways w has).1;
    complete = λ w o. contains_filter (owns M cell) ways w (all w o.highway) (own_to M cell w o);
  })
