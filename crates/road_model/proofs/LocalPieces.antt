-- The pieces of a way are the same where all within two links of it is.
use Rattle.std.proofs.Common.{◌≡◌, ◌↔◌, ℕ, ◌+◌, ◌-◌, inl, inr, refl, sym, ◌∙◌, subst, arith, Some, IsTrue}
use Rattle.road_base.specs.declared.ids.NodeId.{NodeId}
use Rattle.road_base.specs.declared.ids.WayId.{WayId}
use Rattle.road_base.specs.declared.ids.Dir.{Dir}
use Rattle.road_base.specs.declared.ids.Key.TheVariants.{Node as NodeKey, Way as WayKey}
use Rattle.road_base.specs.Objects.{Objects, node_of, way_of}
use Rattle.road_base.specs.Tags.{TagList}
use Rattle.road_model.specs.declared.lists.Place.{Place}
use Rattle.road_model.specs.Rules.{Rules, is_free, has_highway}
use Rattle.road_model.specs.Lines.{node_at}
use Rattle.road_model.specs.Driving.{is_road, located}
use Rattle.road_model.specs.Pieces.{IsPlain, Span, IsPiece}
use Rattle.road_model.specs.Blocks.{IsPlaceOf, place_position}
use Rattle.road_model.specs.Network.{Drives}
use Rattle.road_model.specs.Local.{IsSameWithin}
use Rattle.road_model.proofs.OnePiece.{parts, from_parts}
use Rattle.road_model.proofs.StraightOn.{road_of}
use Rattle.road_model.proofs.ReferredNodes.{road_refers}
use Rattle.road_model.proofs.LocalLinks.{IsAlike, node_same, way_same, within_itself, alike_from, alike_turned}
use Rattle.road_model.proofs.LocalLinks.{alike_less}
use Rattle.road_model.proofs.LocalBodies.{line_same, at_same, located_same, open_same, road_same, shut_same}
use Rattle.road_model.proofs.LocalBodies.{turning_same}

-- a direction is free only for tags with the key `highway`
abbrev pub NeedsHighway : Rules → Type 0
NeedsHighway P = (tags : TagList) (d : Dir) → IsTrue (is_free (P.direction tags d)) → IsTrue (has_highway tags)

module _ (M N : Objects) (P : Rules) (needs : NeedsHighway P) where
  -- a way's body, the nodes on its line and the roads through these are the same
  record IsKnown (w : WayId) : Type 0 where
    way : way_of M w ≡ way_of N w
    nodes : (i : ℕ) (v : NodeId) → node_at M w i ≡ Some v → node_of M v ≡ node_of N v
    roads : (i : ℕ) (v : NodeId) → node_at M w i ≡ Some v → (u : WayId) (j : ℕ) → IsTrue (is_road N P u)
        → node_at N u j ≡ Some v → way_of M u ≡ way_of N u

  known : (w : WayId) → IsTrue (is_road M P w) → IsAlike M N 2 (WayKey w) → IsKnown w
  known w road al =
      let e = way_same M N w (al (WayKey w) (inl (within_itself M 2 (WayKey w)))) in record {
        way = e;
        nodes = λ i v at. node_same M N v
            (al (NodeKey v) (inl (inl (inr (WayKey w, refl, road_refers M P needs w i v road at)))));
        roads = λ i v at u j other there. way_same M N u (al (WayKey u) (inr (inr (
          NodeKey v,
          inr (
            WayKey w,
            refl,
            road_refers N P needs w i v (sym (road_same M N P w e) ∙ road) (sym (at_same M N w i e) ∙ at),
          ),
          road_refers N P needs u j v other there,
        ))));
      }

  located_kept : (w : WayId) → IsKnown w → (i : ℕ) → IsTrue (located M (node_at M w i))
      → IsTrue (located N (node_at N w i))
  located_kept w k i h = subst (λ o. IsTrue (located N o)) (at_same M N w i k.way)
      (sym (located_same M N (node_at M w i) (k.nodes i)) ∙ h)

  plain_kept : (w : WayId) → IsKnown w → (i : ℕ) → IsPlain M P w i → IsPlain N P w i
  plain_kept w k i p =
      let n : node_of M p.node ≡ node_of N p.node = k.nodes i p.node p.is in
      record {
        road = sym (road_same M N P w k.way) ∙ p.road;
        not_first = p.not_first;
        not_last = rw (line_same M N w k.way) at p.not_last;
        node = p.node;
        is = sym (at_same M N w i k.way) ∙ p.is;
        before = located_kept w k (i - 1) p.before;
        here = sym (located_same M N (Some p.node)
            (λ v e. let f : p.node ≡ v = cc (e) in subst (λ x. node_of M x ≡ node_of N x) f n)) ∙ p.here;
        behind = located_kept w k (i + 1) p.behind;
        apart = λ e. p.apart (at_same M N w (i - 1) k.way ∙ e ∙ sym (at_same M N w (i + 1) k.way));
        alone = λ u j r e. let b = k.roads i p.node p.is u j r e in
            p.alone u j (road_same M N P u b ∙ r) (at_same M N u j b ∙ e);
        not_shut = sym (shut_same M N P p.node n) ∙ p.not_shut;
        no_turning = sym (turning_same M N P p.node n) ∙ p.no_turning;
      }

-- the step at a piece's lower end is drivable
low_drives : (M : Objects) (P : Rules) (p : Span) → IsPiece M P p
    → Drives M P (record { way = p.way; index = p.index; dir = p.dir })
low_drives M P p h = h.drives p.index (omega arith) h.ascends

pub piece_road : (M : Objects) (P : Rules) (p : Span) → IsPiece M P p → IsTrue (is_road M P p.way)
piece_road M P p h = road_of M P (record { way = p.way; index = p.index; dir = p.dir }) (low_drives M P p h)

pub piece_kept : (M N : Objects) (P : Rules) → NeedsHighway P → (p : Span) → IsAlike M N 2 (WayKey p.way)
    → IsPiece M P p → IsPiece N P p
piece_kept M N P needs p al h =
    let road = piece_road M P p h in
    let k = known M N P needs p.way road al in
    let other = sym (road_same M N P p.way k.way) ∙ road in
    let back = known N M P needs p.way other (alike_turned M N 2 (WayKey p.way) al) in
    let free = sym (open_same M N P p.way p.dir k.way)
    ∙ (parts M P p.way p.dir p.index (low_drives M P p h)).is_free in
    record {
      ascends = h.ascends;
      first = λ q. h.first (plain_kept N M P needs p.way back p.index q);
      last = λ q. h.last (plain_kept N M P needs p.way back p.end q);
      inner = λ i a b. plain_kept M N P needs p.way k i (h.inner i a b);
      drives = λ i a b. let d = parts M P p.way p.dir i (h.drives i a b) in
          from_parts N P p.way p.dir i free (located_kept M N P needs p.way k i d.here)
          (located_kept M N P needs p.way k (i + 1) d.next);
    }

pub place_kept : (M N : Objects) (P : Rules) → NeedsHighway P → (p : Span) → IsAlike M N 2 (WayKey p.way)
    → IsPiece M P p → (k : ℕ) (x : Place) → IsPlaceOf M p k x → IsPlaceOf N p k x
place_kept M N P needs p al h k x e =
    let known = known M N P needs p.way (piece_road M P p h) al in record {
      node = sym (at_same M N p.way (place_position p k) known.way) ∙ e.node;
      body = e.body;
      visible = sym (known.nodes (place_position p k) x.node e.node) ∙ e.visible;
      location = e.location;
    }

-- ---- of the way's pieces, where all within three links is the same

pub near_three : (M N : Objects) (w v : WayId) → IsSameWithin 3 M N w → v ≡ w → IsAlike M N 2 (WayKey v)
near_three M N w v same e = subst (λ x. IsAlike M N 2 (WayKey x)) (sym e)
    (alike_less M N 2 1 (WayKey w) (alike_from M N 3 w same))

pub local_pieces : (M N : Objects) (P : Rules) → NeedsHighway P → (w : WayId) (p : Span) → IsSameWithin 3 M N w
    → p.way ≡ w → IsPiece M P p ↔ IsPiece N P p
local_pieces M N P needs w p same of =
    let al = near_three M N w p.way same of in
    (piece_kept M N P needs p al, piece_kept N M P needs p (alike_turned M N 2 (WayKey p.way) al))

pub local_places : (M N : Objects) (P : Rules) → NeedsHighway P → (w : WayId) (p : Span) → IsSameWithin 3 M N w
    → p.way ≡ w → IsPiece M P p → (k : ℕ) (x : Place) → IsPlaceOf M p k x ↔ IsPlaceOf N p k x
local_places M N P needs w p same of h k x =
    let al = near_three M N w p.way same of in
    let back = alike_turned M N 2 (WayKey p.way) al in
    (place_kept M N P needs p al h k x, place_kept N M P needs p back (piece_kept M N P needs p al h) k x)
