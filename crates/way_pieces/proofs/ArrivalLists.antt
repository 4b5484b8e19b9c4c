-- Over which ways one arrives.
use Rattle.std.proofs.Common.{◌≡◌, ℕ, Some, IsTrue, sym, subst, ◌∙◌}
use Rattle.std.proofs.lemmas.List.{same_from_push}
use Rattle.road_base.specs.declared.ids.NodeId.{NodeId}
use Rattle.road_base.specs.declared.ids.WayId.{WayId}
use Rattle.road_base.specs.Objects.{Objects}
use Rattle.road_model.specs.Rules.{Rules}
use Rattle.road_model.specs.Lines.{node_at, head_of, head_position}
use Rattle.road_model.specs.Driving.{is_road}
use Rattle.road_model.specs.Links.{RefersTo}
use Rattle.way_pieces.specs.declared.arrivals.Arrival.{Arrival}
use Rattle.way_pieces.specs.Names.{IsArrival, piece_of}
use Rattle.way_pieces.proofs.DrivenSteps.{end_node, piece_road}
use Rattle.way_pieces.proofs.StopOrder.{step, last_index, ends_with}

module _ (M : Objects) (P : Rules) (v : NodeId) (z : Arrival) (is : IsArrival M P v z) where
  -- where a road refers to the nodes that it passes, the arrival's way refers to the node
  pub comes_by : ((w : WayId) (i : ℕ) (u : NodeId) → IsTrue (is_road M P w) → node_at M w i ≡ Some u → RefersTo M w u)
      → RefersTo M z.span.name.way v
  comes_by law =
      let s = z.span in
      let last = step s.name.way s.name.dir (last_index s.name.dir s.name.index s.end) in
      let closing = ends_with s.name.way s.name.index s.end s.name.dir (is.is).ascends in
      let same : is.arrives.last ≡ last = (same_from_push is.arrives.front closing.0 is.arrives.last last
      (sym is.arrives.ends ∙ closing.1)).1 in
      let at = head_position s.name.dir (last_index s.name.dir s.name.index s.end) in
      law s.name.way at v (piece_road M P (piece_of s) is.is)
      (end_node M last at v (subst (λ t. head_of M t ≡ Some v) same is.arrives.head))
