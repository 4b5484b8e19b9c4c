-- Which bodies an object may have.
use Rattle.std.specs.Prelude.{Bool, true, false}
use Rattle.road_base.specs.declared.ids.Key.{Key}
use Rattle.road_base.specs.declared.ids.Key.TheVariants.{Node as NodeKey, Way as WayKey, Relation as RelationKey}
use Rattle.road_base.specs.declared.objects.Body.{Body}
use Rattle.road_base.specs.declared.objects.Body.TheVariants.{Node as NodeBody, Way as WayBody}
use Rattle.road_base.specs.declared.objects.Body.TheVariants.{Relation as RelationBody, Deleted}

-- a deletion may be any object's, and a visible body is of the key's kind
abbrev pub has_kind : Key → Body → Bool
has_kind (NodeKey n) (NodeBody b) = true
has_kind (NodeKey n) (WayBody b) = false
has_kind (NodeKey n) (RelationBody b) = false
has_kind (NodeKey n) Deleted = true
has_kind (WayKey w) (NodeBody b) = false
has_kind (WayKey w) (WayBody b) = true
has_kind (WayKey w) (RelationBody b) = false
has_kind (WayKey w) Deleted = true
has_kind (RelationKey r) (NodeBody b) = false
has_kind (RelationKey r) (WayBody b) = false
has_kind (RelationKey r) (RelationBody b) = true
has_kind (RelationKey r) Deleted = true
