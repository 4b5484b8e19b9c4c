-- A way that is open in some direction is a road; one that isn't visible is none.
use Rattle.std.proofs.Common.{◌≡◌, ◌||◌, false, Option, None, map, sym, ap, ◌∙◌}
use Rattle.std.proofs.lemmas.Bool.{false≢true}
use Rattle.road_base.specs.declared.ids.WayId.{WayId}
use Rattle.road_base.specs.declared.objects.Way.{Way}
use Rattle.road_base.specs.Objects.{Objects, way_of}
use Rattle.road_model.specs.Rules.{Rules}
use Rattle.road_model.specs.Driving.{is_open, is_road, open_way}
use Rattle.road_base.specs.declared.ids.Dir.TheVariants.{Forward, Backward}
use Rattle.way_lines.specs.declared.roads.Road.{Road}
use Rattle.way_lines.specs.RoadLines.{IsRoad, line_node}
use Rattle.way_lines.proofs.WalkedLines.{visible_line}
use Rattle.way_lines.proofs.road_line.RoadLine.of.Goals as goal
use Rattle.way_lines.proofs.road_line.RoadLine.of.Goals.{then-is_open+in-Some+in_ok-nodes, then-is_open+in_default}
use Rattle.way_lines.proofs.road_line.RoadLine.of.Goals.{else-is_open}

open_road : (M : Objects) (P : Rules) (r : Road) → IsRoad M P r → is_road M P r.way ≡ (r.forward || r.backward)
open_road M P r is = sym (ap (λ b. b || r.backward) is.forward ∙ ap (λ b. is_open M P r.way Forward || b) is.backward)

hidden : (M : Objects) (P : Rules) (w : WayId) → None ≡ way_of M w → is_road M P w ≡ false
unfolding is_open
hidden M P w none = ap (λ (o : Option Way). open_way P o Forward || open_way P o Backward) (sym none)

pub returns-clause-line : goal.returns-clause-line
returns-clause-line g c =
    let M = g.M.World.objects c.args.network.now.world.now in
    let P = g.P.Profile.rules c.args.network.now.profile in
    let r = c.args.road in
    let is_one : is_road M P r.way ≡ c.is_open.result = open_road M P r c.requires ∙ sym c.is_open.ensures in
    elim c.if-is_open.branch [
      | then-is_open+in-Some+in_ok-nodes w ↦ record {
        directions = c.requires;
        line = λ road.
            let along = ap (map (line_node M P)) (visible_line M r.way _ w.in-Some.ensures) in
            ap (λ v. v.items) w.nodes-is ∙ (w.in_ok-nodes.ensures.nodes ∙ along);
        none = λ shut. absurd (false≢true (sym shut ∙ (is_one ∙ w.if-is_open.true)));
      }
      | then-is_open+in_default w ↦ record {
        directions = c.requires;
        line = λ road. absurd (false≢true (sym (hidden M P r.way w.in_default.ensures) ∙ road));
        none = λ shut. ap (λ v. v.items) w.nodes-is ∙ c.new-nodes.ensures.items;
      }
      | else-is_open w ↦ record {
        directions = c.requires;
        line = λ road. absurd (false≢true (sym w.if-is_open.false ∙ (sym is_one ∙ road)));
        none = λ shut. ap (λ v. v.items) w.nodes-is ∙ c.new-nodes.ensures.items;
      }
    ]
