-- A cell of a cell is a cell of the map.
use Rattle.std.proofs.Common.{◌∙◌}
use Rattle.road_base.specs.declared.ids.NodeId.{NodeId}
use Rattle.road_base.specs.declared.ids.WayId.{WayId}
use Rattle.road_base.specs.declared.ids.RelationId.{RelationId}
use Rattle.road_base.specs.declared.ids.Key.{Key}
use Rattle.road_base.specs.declared.ids.Key.TheVariants.{Node as NodeKey, Way as WayKey, Relation as RelationKey}
use Rattle.road_base.specs.Objects.{Objects}
use Rattle.road_model.proofs.LocalLinks.{node_same, way_same, relation_same}
use Rattle.map_cells.specs.declared.area.Area.{Area}
use Rattle.map_cells.specs.Areas.{IsInside}
use Rattle.map_cells.specs.Cells.{IsLocatedIn, IsInner, NamesObject, Keeps, IsCell}
use Rattle.map_cells.proofs.KeptLinks.{way_kept}

-- in a larger area
module _ (M : Objects) (outer inner : Area) (within : IsInside inner outer) where
  located_wider : (n : NodeId) → IsLocatedIn M inner n → IsLocatedIn M outer n
  located_wider n h = record {
    body = h.body;
    is = h.is;
    place = h.place;
    located = h.located;
    inside = within h.place h.inside;
  }

  inner_wider : (w : WayId) → IsInner M inner w → IsInner M outer w
  inner_wider w h = record {
    body = h.body;
    is = h.is;
    node = h.node;
    named = h.named;
    inside = located_wider h.node h.inside;
  }

module _ (M N C : Objects) (outer inner : Area) (first : IsCell M N outer) (second : IsCell N C inner)
    (within : IsInside inner outer) where
  node_there : (n : NodeId) → IsLocatedIn M inner n → Keeps M N (NodeKey n)
  node_there n h = first.nodes n (located_wider M outer inner within n h)

  way_there : (w : WayId) → IsInner M inner w → Keeps M N (WayKey w)
  way_there w h = first.ways w (inner_wider M outer inner within w h)

  located_there : (n : NodeId) → IsLocatedIn M inner n → IsLocatedIn N inner n
  located_there n h = record {
    body = h.body;
    is = node_same N M n (node_there n h) ∙ h.is;
    place = h.place;
    located = h.located;
    inside = h.inside;
  }

  inner_there : (w : WayId) → IsInner M inner w → IsInner N inner w
  inner_there w h = record {
    body = h.body;
    is = way_same N M w (way_there w h) ∙ h.is;
    node = h.node;
    named = h.named;
    inside = located_there h.node h.inside;
  }

  names_there : (r : RelationId) (k : Key) → Keeps M N (RelationKey r) → NamesObject M r k → NamesObject N r k
  names_there r k keeps h = record { body = h.body; is = relation_same N M r keeps ∙ h.is; named = h.named }

  pub nested : IsCell M C inner
  nested = record {
    part = λ k body is. first.part k body (second.part k body is);
    nodes = λ n h. second.nodes n (located_there n h) ∙ node_there n h;
    ways = λ w h. second.ways w (inner_there w h) ∙ way_there w h;
    of_nodes = λ r n h names.
        let keeps : Keeps M N (RelationKey r) = first.of_nodes r n (located_wider M outer inner within n h) names in
        second.of_nodes r n (located_there n h) (names_there r (NodeKey n) keeps names) ∙ keeps;
    of_ways = λ r w h names.
        let keeps : Keeps M N (RelationKey r) = first.of_ways r w (inner_wider M outer inner within w h) names in
        second.of_ways r w (inner_there w h) (names_there r (WayKey w) keeps names) ∙ keeps;
    lines = λ w body n is named. second.lines w body n is named
        ∙ first.lines w body n (way_kept N C second.part w body is) named;
  }
