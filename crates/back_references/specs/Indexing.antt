-- References that are those of an object map.
use Rattle.std.specs.Prelude.{◌↔◌}
use Rattle.road_base.specs.declared.ids.NodeId.{NodeId}
use Rattle.road_base.specs.declared.ids.WayId.{WayId}
use Rattle.road_base.specs.declared.ids.RelationId.{RelationId}
use Rattle.road_base.specs.declared.ids.Key.TheVariants.{Node as NodeKey, Way as WayKey}
use Rattle.road_base.specs.Objects.{Objects}
use Rattle.road_model.specs.Links.{RefersTo, HasMember}
use Rattle.road_model.specs.Orders.{node_cmp, way_cmp}
use Rattle.layered_maps.specs.Lists.{Has}
use Rattle.back_references.specs.declared.references.References.{References}

-- they hold exactly the links of the map
pub record IsIndexed (M : Objects) (held : References) : Type 0 where
  pub ways : (n : NodeId) (w : WayId) → Has node_cmp held.ways n w ↔ RefersTo M w n
  pub node_rules : (n : NodeId) (r : RelationId) → Has node_cmp held.node_rules n r ↔ HasMember M r (NodeKey n)
  pub way_rules : (w : WayId) (r : RelationId) → Has way_cmp held.way_rules w r ↔ HasMember M r (WayKey w)
