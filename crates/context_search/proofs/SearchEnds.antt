-- Which steps of a piece begin and end at a node, by the places that are written of it.
use Rattle.std.proofs.Common.{◌≡◌, ℕ, ◌+◌, ◌-◌, ◌<◌, ◌≤◌, Some, slice_get, IsTrue, refl, sym, ◌∙◌, ap, subst}
use Rattle.std.proofs.Common.{arith}
use Rattle.std.proofs.lemmas.Option.{slice_get_within}
use Rattle.road_base.specs.declared.ids.NodeId.{NodeId}
use Rattle.road_base.specs.declared.ids.WayId.{WayId}
use Rattle.road_base.specs.declared.ids.Step.{Step}
use Rattle.road_base.specs.declared.ids.Dir.{Dir}
use Rattle.road_base.specs.declared.ids.Dir.TheVariants.{Forward, Backward}
use Rattle.road_base.specs.Objects.{Objects}
use Rattle.ordered_lists.proofs.ListPlaces.{some_at, one_stands}
use Rattle.road_model.specs.declared.lists.Piece.{Piece}
use Rattle.road_model.specs.Rules.{Rules}
use Rattle.road_model.specs.Lines.{node_at, tail_of, head_of}
use Rattle.road_model.specs.Driving.{drivable, Leaves}
use Rattle.road_model.specs.Links.{RefersTo}
use Rattle.road_model.specs.Pieces.{Span, IsPiece, spell}
use Rattle.road_model.specs.Blocks.{IsPieceEntry, place_position}
use Rattle.road_model.proofs.StepPlaces.{forward_at, backward_at}
use Rattle.road_model.proofs.StepEnds.{named_end, drives_named}
use Rattle.context_search.specs.Searching.{BeginsAt, StopsAt}
use Rattle.context_search.specs.Ends.{BeginsBy, StopsBy}
use Rattle.road_model.proofs.FilePlaces.{length-steps}

-- the step that stands at place k of the piece, and the positions between which it goes
record StepAt (M : Objects) (P : Rules) (p : Span) (k : ℕ) : Type 0 where
  step : Step
  at : slice_get (spell p) k ≡ Some step
  tail : tail_of M step ≡ node_at M p.way (place_position p k)
  head : head_of M step ≡ node_at M p.way (place_position p (k + 1))
  way : step.way ≡ p.way
  drives : IsTrue (drivable M P step)

module _ (M : Objects) (P : Rules) where
  step_by : (w : WayId) (i j : ℕ) (d : Dir) (k : ℕ) → k < j - i
      → ((x : ℕ) → i ≤ x → x < j → IsTrue (drivable M P (record { way = w; index = x; dir = d })))
      → StepAt M P (record { way = w; index = i; end = j; dir = d }) k
  step_by w i j Forward k l drives =
      let s : Step = record { way = w; index = i + k; dir = Forward } in
      let named = drives_named M P s (drives (i + k) (omega arith) (omega arith)) in
      let next : i + k + 1 ≡ i + (k + 1) = omega arith in
      record {
        step = s;
        at = forward_at w i (j - i) k (i + k) l refl;
        tail = named_end M s (i + k) named;
        head = named_end M s (i + k + 1) named ∙ ap (node_at M w) next;
        way = refl;
        drives = drives (i + k) (omega arith) (omega arith);
      }
  step_by w i j Backward k l drives =
      let x = j - (k + 1) in
      let s : Step = record { way = w; index = x; dir = Backward } in
      let named = drives_named M P s (drives x (omega arith) (omega arith)) in
      let next : x + 1 ≡ j - k = omega arith in
      record {
        step = s;
        at = backward_at w i (j - i) k x l (omega arith);
        tail = named_end M s (x + 1) named ∙ ap (node_at M w) next;
        head = named_end M s x named;
        way = refl;
        drives = drives x (omega arith) (omega arith);
      }

  step_at : (p : Span) → IsPiece M P p → (k : ℕ) → k < p.end - p.index → StepAt M P p k
  step_at p i k l = step_by p.way p.index p.end p.dir k l i.drives

  within : (p : Span) (k : ℕ) (s : Step) → slice_get (spell p) k ≡ Some s → k < p.end - p.index
  within p k s e = subst (λ n. k < n) (length-steps p.way p.index (p.end - p.index) p.dir)
      (slice_get_within (spell p) k s e)

  module _ (w : WayId) (e : Piece) (listed : IsPieceEntry M P w e) where
    pub begins_at : (k : ℕ) (v : NodeId) → BeginsBy e.places k v → BeginsAt M listed.piece k v
    begins_at k v b =
        let n = listed.count in
        let h = b.within in
        let s = step_at listed.piece listed.is k (omega arith) in
        let q = listed.places k b.place b.at in
        record { step = s.step; at = s.at; tail = s.tail ∙ q.node ∙ ap Some b.is }

    pub stops_at : (k : ℕ) (v : NodeId) → StopsBy e.places k v → StopsAt M listed.piece k v
    stops_at k v b =
        let n = listed.count in
        let h = slice_get_within e.places (k + 1) b.place b.at in
        let s = step_at listed.piece listed.is k (omega arith) in
        let q = listed.places (k + 1) b.place b.at in
        record { step = s.step; at = s.at; head = s.head ∙ q.node ∙ ap Some b.is }

    pub begins_by : (k : ℕ) (v : NodeId) → BeginsAt M listed.piece k v → BeginsBy e.places k v
    begins_by k v b =
        let n = listed.count in
        let h = within listed.piece k b.step b.at in
        let s = step_at listed.piece listed.is k h in
        let x = some_at e.places k (omega arith) in
        let q = listed.places k x.0 x.1 in
        let same = one_stands (spell listed.piece) k s.step b.step s.at b.at in
        let f : Some x.0.node ≡ Some v = sym q.node ∙ sym s.tail ∙ ap (tail_of M) same ∙ b.tail in
        record { place = x.0; at = x.1; is = cc; within = omega arith }

    pub stops_by : (k : ℕ) (v : NodeId) → StopsAt M listed.piece k v → StopsBy e.places k v
    stops_by k v b =
        let n = listed.count in
        let h = within listed.piece k b.step b.at in
        let s = step_at listed.piece listed.is k h in
        let x = some_at e.places (k + 1) (omega arith) in
        let q = listed.places (k + 1) x.0 x.1 in
        let same = one_stands (spell listed.piece) k s.step b.step s.at b.at in
        let f : Some x.0.node ≡ Some v = sym q.node ∙ sym s.head ∙ ap (head_of M) same ∙ b.head in
        record { place = x.0; at = x.1; is = cc }

  -- the way of a step that begins at the node refers to it
  pub begin_refers : ((v : NodeId) (u : Step) → Leaves M P v u → RefersTo M u.way v) → (p : Span) → IsPiece M P p
      → (k : ℕ) (v : NodeId) → BeginsAt M p k v → RefersTo M p.way v
  begin_refers left p i k v b =
      let s = step_at p i k (within p k b.step b.at) in
      let same = one_stands (spell p) k s.step b.step s.at b.at in
      subst (λ w. RefersTo M w v) s.way
      (left v s.step (record { drives = s.drives; tail = ap (tail_of M) same ∙ b.tail }))
