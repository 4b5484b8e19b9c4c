-- The number of a key, and that keys which tie have the same one.
use Rattle.std.specs.Prelude.{◌≡◌, ℤ}
use Rattle.std.specs.declared.cmp.Ordering.TheVariants.{Equal}
use Rattle.std.specs.FinMap.{int_cmp-IsAntisymmetric}
use Rattle.road_base.specs.declared.ids.NodeId.{NodeId}
use Rattle.road_base.specs.declared.ids.WayId.{WayId}
use Rattle.road_base.specs.declared.ids.Key.{Key}
use Rattle.road_base.specs.declared.ids.Key.TheVariants.{Node as NodeKey, Way as WayKey, Relation as RelationKey}
use Rattle.road_base.specs.contracts.ids.KeyOrd.TheImpl.{ghosts as keys}
use Rattle.road_base.specs.contracts.ids.NodeIdOrd.TheImpl.{ghosts as nodes}
use Rattle.road_base.specs.contracts.ids.WayIdOrd.TheImpl.{ghosts as ways}

-- the number, whatever the kind
abbrev pub key_number : Key → ℤ
key_number (NodeKey n) = n.0
key_number (WayKey w) = w.0
key_number (RelationKey r) = r.0

pub key_tied : (a b : Key) → keys.cmp a b ≡ Equal → key_number a ≡ key_number b
key_tied (NodeKey a) (NodeKey b) tied = int_cmp-IsAntisymmetric a.0 b.0 tied
key_tied (NodeKey a) (WayKey b) tied = cc
key_tied (NodeKey a) (RelationKey b) tied = cc
key_tied (WayKey a) (NodeKey b) tied = cc
key_tied (WayKey a) (WayKey b) tied = int_cmp-IsAntisymmetric a.0 b.0 tied
key_tied (WayKey a) (RelationKey b) tied = cc
key_tied (RelationKey a) (NodeKey b) tied = cc
key_tied (RelationKey a) (WayKey b) tied = cc
key_tied (RelationKey a) (RelationKey b) tied = int_cmp-IsAntisymmetric a.0 b.0 tied

pub node_tied : (a b : NodeId) → nodes.cmp a b ≡ Equal → a.0 ≡ b.0
node_tied a b tied = int_cmp-IsAntisymmetric a.0 b.0 tied

pub way_tied : (a b : WayId) → ways.cmp a b ≡ Equal → a.0 ≡ b.0
way_tied a b tied = int_cmp-IsAntisymmetric a.0 b.0 tied
