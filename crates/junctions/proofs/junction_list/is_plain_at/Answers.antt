-- The nodes about the position are known, and whether the node there stands on the line again.
use Rattle.std.proofs.Common.{List, sym, subst, ◌∙◌}
use Rattle.std.proofs.lemmas.Bool.{false≢true}
use Rattle.way_lines.specs.declared.road_line.LineNode.{LineNode}
use Rattle.junctions.specs.PlainPositions.{AreNeighbours}
use Rattle.junctions.proofs.Positions.{plain_once, once_plain}
use Rattle.junctions.proofs.junction_list.is_plain_at.Goals as goal

pub returns-then-has : goal.returns-then-has
returns-then-has g c =
    let M = g.M.World.objects c.args.network.now.world.now in
    let P = g.P.Profile.rules c.args.network.now.profile in
    let line = c.args.line.now in
    let i = c.args.at in
    let n = c.in-Some.nodes in
    let about = subst (λ (l : List LineNode). AreNeighbours l i n) c.as_slice.ensures.value c.in-Some.ensures.some in
    let parts = once_plain M P line c.requires.line i n about c.args.repeats.now c.requires.repeats in (
      λ no. absurd (false≢true no),
      λ plain. (parts plain).0 ∙ sym c.if-has.ensures,
    )

pub returns : goal.returns
returns g c =
    let M = g.M.World.objects c.args.network.now.world.now in
    let P = g.P.Profile.rules c.args.network.now.profile in
    let line = c.args.line.now in
    let i = c.args.at in
    let n = c.in-Some.nodes in
    let about = subst (λ (l : List LineNode). AreNeighbours l i n) c.as_slice.ensures.value c.in-Some.ensures.some in
    let is_plain = plain_once M P line c.requires.line i n about c.args.repeats.now c.requires.repeats in
    let parts = once_plain M P line c.requires.line i n about c.args.repeats.now c.requires.repeats in (
      λ yes. is_plain c.if-has.ensures (c.is_passed.ensures.0 yes),
      λ plain. c.is_passed.ensures.1 (parts plain).1,
    )
