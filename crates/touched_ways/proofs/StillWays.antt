-- The ways of which nothing differs within two links, and whose neighbours have the same pieces before and after a
-- change; and those that no restriction names beside another way.
use Rattle.std.proofs.Common.{◌≡◌, inl, inr, refl, sym, ◌∙◌}
use Rattle.road_base.specs.declared.ids.NodeId.{NodeId}
use Rattle.road_base.specs.declared.ids.WayId.{WayId}
use Rattle.road_base.specs.declared.ids.RelationId.{RelationId}
use Rattle.road_base.specs.declared.ids.Key.TheVariants.{Node as NodeKey, Way as WayKey, Relation as RelationKey}
use Rattle.road_base.specs.Objects.{Objects, way_of, relation_of}
use Rattle.road_model.specs.Rules.{Rules}
use Rattle.road_model.specs.Links.{RefersTo, HasMember}
use Rattle.road_model.proofs.LocalLinks.{IsAlike, alike_from, way_same, relation_same, within_itself, alike_turned}
use Rattle.touched_ways.specs.Altering.{AreNamedTogether, IsStill, MeetsSamePieces}

-- all within two links of the way is the same, and the ways that share a node with it have the same pieces
pub record IsQuiet (M N : Objects) (P : Rules) (w : WayId) : Type 0 where
  pub alike : IsAlike M N 2 (WayKey w)
  pub meets : MeetsSamePieces M N P w

pub quiet_from : (M N : Objects) (P : Rules) (w : WayId) → IsStill M N P w → IsQuiet M N P w
quiet_from M N P w still = record { alike = alike_from M N 2 w still.0; meets = still.1 }

-- a way whose body is the same refers to the same nodes
refers_kept : (M N : Objects) (w : WayId) (v : NodeId) → way_of M w ≡ way_of N w → RefersTo M w v → RefersTo N w v
refers_kept M N w v e h = record { body = h.body; is = sym e ∙ h.is; highway = h.highway; member = h.member }

module _ (M N : Objects) (P : Rules) (w : WayId) (q : IsQuiet M N P w) where
  -- the way's body is the same
  pub own_body : way_of M w ≡ way_of N w
  own_body = way_same M N w (q.alike (WayKey w) (inl (within_itself M 2 (WayKey w))))

  pub own_refers : (n : NodeId) → RefersTo M w n → RefersTo N w n
  own_refers n h = refers_kept M N w n own_body h

  -- the body of a way that shares a node with it is the same
  pub met_body : (v : WayId) (n : NodeId) → RefersTo M w n → RefersTo M v n → way_of M v ≡ way_of N v
  met_body v n h k = way_same M N v
      (q.alike (WayKey v) (inl (inr (NodeKey n, inr (WayKey w, refl, h), k))))

  pub met_refers : (v : WayId) (n : NodeId) → RefersTo M w n → RefersTo M v n → RefersTo N v n
  met_refers v n h k = refers_kept M N v n (met_body v n h k) k

-- the ways that share a node with it in the one object map do so in the other
meets_turned : (M N : Objects) (P : Rules) (w : WayId) → IsQuiet M N P w → MeetsSamePieces N M P w
meets_turned M N P w q v n h k p of =
    let same = q.meets v n (own_refers M N P w q n h) (met_refers M N P w q v n h k) p of in (same.1, same.0)

pub quiet_turned : (M N : Objects) (P : Rules) (w : WayId) → IsQuiet M N P w → IsQuiet N M P w
quiet_turned M N P w q = record {
  alike = alike_turned M N 2 (WayKey w) q.alike;
  meets = meets_turned M N P w q;
}

-- ---- the ways that a restriction names beside it

-- the way is quiet, and so is each that a restriction names beside it
pub record IsSettled (M N : Objects) (P : Rules) (w : WayId) : Type 0 where
  pub own : IsQuiet M N P w
  pub beside : (v : WayId) → AreNamedTogether M w v → IsQuiet M N P v

-- a restriction whose body is the same has the same members
member_kept : (M N : Objects) (r : RelationId) (w : WayId) → relation_of M r ≡ relation_of N r
    → HasMember M r (WayKey w) → HasMember N r (WayKey w)
member_kept M N r w e h = record
    { body = h.body; is = sym e ∙ h.is; restriction = h.restriction; member = h.member }

-- a restriction that names the way is one link from it, so it is the same in both object maps
named_kept : (M N : Objects) (w v : WayId) → IsAlike M N 2 (WayKey w) → AreNamedTogether M w v
    → AreNamedTogether N w v
named_kept M N w v al (r, h, k) =
    let e = relation_same M N r (al (RelationKey r) (inl (inl (inr (WayKey w, refl, h))))) in
    (r, member_kept M N r w e h, member_kept M N r v e k)

pub settled_from : (M N : Objects) (P : Rules) (w : WayId) → IsStill M N P w
    → ((v : WayId) → AreNamedTogether N w v → IsStill M N P v) → IsSettled M N P w
settled_from M N P w still others =
    let own = quiet_from M N P w still in
    record { own = own; beside = λ v h. quiet_from M N P v (others v (named_kept M N w v own.alike h)) }

pub settled_turned : (M N : Objects) (P : Rules) (w : WayId) → IsSettled M N P w → IsSettled N M P w
settled_turned M N P w s = record {
  own = quiet_turned M N P w s.own;
  beside = λ v h. quiet_turned M N P v
      (s.beside v (named_kept N M w v (alike_turned M N 2 (WayKey w) s.own.alike) h));
}
