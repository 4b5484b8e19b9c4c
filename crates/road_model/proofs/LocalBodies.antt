-- What is looked up of a way or a node whose body is the same in two object maps.
use Rattle.std.proofs.Common.{◌≡◌, ℕ, ◌+◌, refl, ap, length, cond, Option, Some, None, slice_get, ◌||◌}
use Rattle.std.specs.Prelude.{nat_lt}
use Rattle.road_base.specs.declared.ids.NodeId.{NodeId}
use Rattle.road_base.specs.declared.ids.WayId.{WayId}
use Rattle.road_base.specs.declared.ids.Step.{Step}
use Rattle.road_base.specs.declared.ids.Dir.{Dir}
use Rattle.road_base.specs.declared.ids.Dir.TheVariants.{Forward, Backward}
use Rattle.road_base.specs.Objects.{Objects, node_of, way_of}
use Rattle.road_model.specs.Rules.{Rules}
use Rattle.road_model.specs.Lines.{changes, refs_of, line_of, node_at, names_pair, end_at}
use Rattle.road_model.specs.Driving.{is_open, open_way, is_road, located, node_located, shut, node_shut, turning_place}
use Rattle.road_model.specs.Driving.{node_turns, is_marked, zone_way}

module _ (M N : Objects) where
  pub line_same : (w : WayId) → way_of M w ≡ way_of N w → line_of M w ≡ line_of N w
  unfolding line_of
  line_same w e = ap (λ o. changes (refs_of o)) e

  pub at_same : (w : WayId) (i : ℕ) → way_of M w ≡ way_of N w → node_at M w i ≡ node_at N w i
  unfolding node_at
  at_same w i e = ap (λ l. slice_get l i) (line_same w e)

  named_same : (s : Step) → way_of M s.way ≡ way_of N s.way → names_pair M s ≡ names_pair N s
  unfolding names_pair
  named_same s e = ap (λ l. nat_lt (s.index + 1) (length l)) (line_same s.way e)

  pub end_same : (s : Step) (i : ℕ) → way_of M s.way ≡ way_of N s.way → end_at M s i ≡ end_at N s i
  unfolding end_at
  end_same s i e = λ j. cond (named_same s e j) (at_same s.way i e j) None

  pub located_same : (o : Option NodeId) → ((v : NodeId) → o ≡ Some v → node_of M v ≡ node_of N v)
      → located M o ≡ located N o
  located_same None h = refl
  located_same (Some v) h = ap node_located (h v refl)

  pub open_same : (P : Rules) (w : WayId) (d : Dir) → way_of M w ≡ way_of N w → is_open M P w d ≡ is_open N P w d
  unfolding is_open
  open_same P w d e = ap (λ o. open_way P o d) e

  pub marked_same : (P : Rules) (w : WayId) (d : Dir) → way_of M w ≡ way_of N w → is_marked M P w d ≡ is_marked N P w d
  unfolding is_marked
  marked_same P w d e = ap (λ o. zone_way P o d) e

  pub road_same : (P : Rules) (w : WayId) → way_of M w ≡ way_of N w → is_road M P w ≡ is_road N P w
  road_same P w e = λ i. open_same P w Forward e i || open_same P w Backward e i

  pub shut_same : (P : Rules) (v : NodeId) → node_of M v ≡ node_of N v → shut M P v ≡ shut N P v
  shut_same P v e = ap (node_shut P) e

  pub turning_same : (P : Rules) (v : NodeId) → node_of M v ≡ node_of N v → turning_place M P v ≡ turning_place N P v
  turning_same P v e = ap (node_turns P) e
