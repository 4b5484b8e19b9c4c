-- The iterator yields the line in order.
use Rattle.std.proofs.Common.{◌≡◌, Option, Some, None, refl, sym, ◌∙◌}
use Rattle.std.specs.Option.{option_map}
use Rattle.std.proofs.lemmas.Iterator.Consumers.{nth_from_yields_List, YieldsList-from_first}
use Rattle.road_base.specs.declared.ids.NodeId.{NodeId}
use Rattle.road_model.specs.Lines.{changes}
use Rattle.way_lines.specs.Left.{nodes_left}
use Rattle.way_lines.proofs.line_nodes.line_at.Goals as goal

same : (node : Option NodeId) → option_map (λ x. x) node ≡ node
same None = refl
same (Some node) = refl

pub returns : goal.returns
returns c =
    sym (same c.nth.result)
    ∙ nth_from_yields_List c.nth.result c.nth.new.self c.args.position c.nth.ensures.ran
    (YieldsList-from_first (λ x. x) nodes_left (changes c.args.way.now.refs) c.line.ensures.nodes)
