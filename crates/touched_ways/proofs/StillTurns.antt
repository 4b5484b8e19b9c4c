-- A step that follows one of a quiet way still does: the ways that meet where the step ends have the same pieces, so
-- the same steps leave.
use Rattle.std.proofs.Common.{◌≡◌, inl, inr, refl, sym, ◌∙◌, subst, Some}
use Rattle.road_base.specs.declared.ids.NodeId.{NodeId}
use Rattle.road_base.specs.declared.ids.WayId.{WayId}
use Rattle.road_base.specs.declared.ids.Step.{Step}
use Rattle.road_base.specs.declared.ids.Key.TheVariants.{Node as NodeKey, Way as WayKey}
use Rattle.road_base.specs.Objects.{Objects, node_of, way_of}
use Rattle.road_model.specs.Rules.{Rules}
use Rattle.road_model.specs.Lines.{head_of, tail_of, head_position}
use Rattle.road_model.specs.Driving.{Leaves, MayTurn, AtPlace, AtShut, AtDeadEnd, Passes}
use Rattle.road_model.specs.Pieces.{Span, IsPiece}
use Rattle.road_model.specs.Network.{Drives}
use Rattle.road_model.specs.Links.{RefersTo}
use Rattle.road_model.proofs.OnePiece.{one_piece}
use Rattle.road_model.proofs.StepPlaces.{Inside, step, stands_inside}
use Rattle.road_model.proofs.StepEnds.{end_named}
use Rattle.road_model.proofs.StraightOn.{road_of}
use Rattle.road_model.proofs.ReferredNodes.{road_refers, step_refers}
use Rattle.road_model.proofs.LocalLinks.{node_same}
use Rattle.road_model.proofs.LocalBodies.{end_same, shut_same, turning_same}
use Rattle.road_model.proofs.LocalPieces.{NeedsHighway}
use Rattle.touched_ways.proofs.StillWays.{IsQuiet, quiet_turned, own_body, own_refers, met_body}

-- ---- steps of pieces

inside_drives : (M : Objects) (P : Rules) (p : Span) (s : Step) → IsPiece M P p → Inside p s → Drives M P s
inside_drives M P p s h i =
    let e : step p.way p.dir s.index ≡ s = λ x. record
    { way = (sym i.way) x; index = s.index; dir = (sym i.dir) x } in
    subst (Drives M P) e (h.drives s.index i.low i.high)

-- a step of a way that has the same pieces is drivable in both object maps
drives_kept : (M N : Objects) (P : Rules) (s : Step)
    → ((p : Span) → p.way ≡ s.way → IsPiece N P p → IsPiece M P p) → Drives N P s → Drives M P s
drives_kept M N P s same d =
    let o = one_piece N P s d in
    let i = (stands_inside o.piece o.place s o.stands.piece.ascends o.stands.at).inside in
    inside_drives M P o.piece s (same o.piece (sym i.way) o.stands.piece) i

-- ---- where a step follows another one

-- two ways refer to one node
pub record AreMet (M : Objects) (w v : WayId) : Type 0 where
  pub node : NodeId
  pub first : RefersTo M w node
  pub second : RefersTo M v node

-- a step's way refers to the node where it ends
end_refers : (M : Objects) (P : Rules) → NeedsHighway P → (s : Step) → Drives M P s → (v : NodeId)
    → head_of M s ≡ Some v → RefersTo M s.way v
end_refers M P needs s d v to = road_refers M P needs s.way (head_position s.dir s.index) v (road_of M P s d)
    (end_named M s (head_position s.dir s.index) v to).1

-- the ways of two steps, of which one may follow the other, share a node
pub pass_meets : (M : Objects) (P : Rules) → NeedsHighway P → (s t : Step) → Drives M P s → Drives M P t
    → Passes M P s t → AreMet M s.way t.way
pass_meets M P needs s t d e p = record {
  node = p.node;
  first = end_refers M P needs s d p.node p.from;
  second = step_refers M P needs p.node t (record { drives = e; tail = p.to });
}

module _ (M N : Objects) (P : Rules) (needs : NeedsHighway P) (s : Step) (q : IsQuiet M N P s.way)
    (d : Drives M P s) (v : NodeId) (to : head_of M s ≡ Some v) where
  -- the node where the step ends has the same body in both object maps
  end_kept : node_of M v ≡ node_of N v
  end_kept = node_same M N v
      (q.alike (NodeKey v) (inl (inl (inr (WayKey s.way, refl, end_refers M P needs s d v to)))))

  -- what leaves it afterwards did so before
  leaves_before : (u : Step) → Leaves N P v u → Leaves M P v u
  leaves_before u l =
      let first = own_refers M N P s.way q v (end_refers M P needs s d v to) in
      let second = step_refers N P needs v u l in
      let e = met_body N M P s.way (quiet_turned M N P s.way q) u.way v first second in
      record {
        drives = drives_kept M N P u (λ p of h. (q.meets u.way v first second p of).1 h) l.drives;
        tail = sym (end_same N M u _ e) ∙ l.tail;
      }

  -- leave to turn there is kept for a step that is drivable in both
  turn_kept : (t : Step) → way_of M t.way ≡ way_of N t.way → Drives N P t → MayTurn M P v t → MayTurn N P v t
  turn_kept t e f (AtPlace h) = AtPlace (sym (turning_same M N P v end_kept) ∙ h)
  turn_kept t e f (AtShut h) = AtShut (sym (shut_same M N P v end_kept) ∙ h)
  turn_kept t e f (AtDeadEnd l h) = AtDeadEnd
      (record { drives = f; tail = sym (end_same M N t _ e) ∙ l.tail })
      (λ u g. h u (leaves_before u g))

pub pass_kept : (M N : Objects) (P : Rules) → NeedsHighway P → (s t : Step) → IsQuiet M N P s.way → Drives M P s
    → Drives M P t → Drives N P t → Passes M P s t → Passes N P s t
pass_kept M N P needs s t q d g k p =
    let m = pass_meets M P needs s t d g p in
    let e = own_body M N P s.way q in
    let f = met_body M N P s.way q t.way m.node m.first m.second in
    let from_head : head_of M s ≡ head_of N s = end_same M N s _ e in
    let from_tail : tail_of M s ≡ tail_of N s = end_same M N s _ e in
    let to_head : head_of M t ≡ head_of N t = end_same M N t _ f in
    let to_tail : tail_of M t ≡ tail_of N t = end_same M N t _ f in
    record {
      node = p.node;
      from = sym from_head ∙ p.from;
      to = sym to_tail ∙ p.to;
      back = λ h. turn_kept M N P needs s q d p.node p.from t f k (p.back (to_head ∙ h ∙ sym from_tail));
      on = λ h. sym (shut_same M N P p.node (end_kept M N P needs s q d p.node p.from))
          ∙ p.on (λ g. h (sym to_head ∙ g ∙ from_tail));
    }
