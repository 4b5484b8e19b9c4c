-- Each of the ways has its directions.
use Rattle.std.proofs.Common.{List, sym, subst, ◌∙◌}
use Rattle.std.specs.List.{All}
use Rattle.std.proofs.lemmas.List.Elements.{All-map}
use Rattle.way_lines.specs.declared.roads.Road.{Road}
use Rattle.way_lines.specs.RoadLines.{IsRoad}
use Rattle.way_pieces.specs.declared.met_ways.MetWay.{MetWay}
use Rattle.way_pieces.proofs.met_ways.roads_of.Goals as goal

pub returns-clause-are : goal.returns-clause-are
returns-clause-are c = λ M P are.
    subst (λ (l : List Road). All (IsRoad M P) l) (sym (c.from_list.ensures ∙ c.in_ok-roads_in.ensures))
    (All-map (IsRoad M P) (λ (m : MetWay). m.road) c.args.met.now (λ k d inside. (are k d inside).road))
