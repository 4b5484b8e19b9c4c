-- The nodes about the position are known, and how often the node there stands on the line.
use Rattle.std.proofs.Common.{◌≡◌, ℕ, ◌+◌, ◌<◌, ◌≤◌, List, length, map, false, true, sym, ap, subst, ◌∙◌, arith}
use Rattle.std.proofs.lemmas.Bool.{false≢true}
use Rattle.road_base.specs.declared.ids.NodeId.{NodeId}
use Rattle.road_model.specs.Lines.{changes, line_of}
use Rattle.road_model.specs.Driving.{is_road}
use Rattle.way_lines.specs.RoadLines.{line_node}
use Rattle.junctions.specs.PlainPositions.{AreNeighbours}
use Rattle.junctions.specs.Repeats.{is_repeated}
use Rattle.junctions.proofs.Positions.{open_road, plain_from, passed, once}
use Rattle.junctions.proofs.RoadNodes.{no_road, visible_line}
use Rattle.junctions.proofs.plain.is_plain_on.Goals as goal

pub returns-in_default : goal.returns-in_default
returns-in_default g c =
    let M = g.M.World.objects c.args.network.now.world.now in
    let P = g.P.Profile.rules c.args.network.now.profile in (
      λ no. absurd (false≢true no),
      λ is. absurd (no_road M P c.args.way c.in_default.ensures is.road),
    )

outside : (i n m : ℕ) → n ≡ m → 0 < i → (0 < i → m ≤ i + 1) → i + 1 < n → ⊥
outside i n m same low none high = let short = none low in omega arith

pub returns-in_default-neighbours_of : goal.returns-in_default-neighbours_of
returns-in_default-neighbours_of g c =
    let M = g.M.World.objects c.args.network.now.world.now in
    let w = c.args.way in
    let refs = (c.in-Some.body.now).refs in
    let line : line_of M w ≡ changes refs = visible_line M w c.in-Some.body.now (sym c.in-Some.ensures) in (
      λ no. absurd (false≢true no),
      λ is.
          let past = c.in_default-neighbours_of.ensures.none in
          let n = length (line_of M w) in
          absurd (outside c.args.position n (length (changes refs)) (ap length line) is.not_first past is.not_last),
    )

pub returns-then-stands_again : goal.returns-then-stands_again
returns-then-stands_again g c =
    let M = g.M.World.objects c.args.network.now.world.now in
    let P = g.P.Profile.rules c.args.network.now.profile in
    let nodes = c.in-Some-neighbours_of.nodes in
    let w = c.args.way in
    let refs = (c.in-Some.body.now).refs in
    let line : line_of M w ≡ changes refs = visible_line M w c.in-Some.body.now (sym c.in-Some.ensures) in
    let i = c.args.position in
    let seen = c.in-Some-neighbours_of.ensures.some in
    let about = subst (λ (l : List NodeId). AreNeighbours (map (line_node M P) l) i nodes) (sym line) seen in
    let along : is_repeated (changes refs) nodes.here.node ≡ is_repeated (line_of M w) nodes.here.node =
    ap (λ (l : List NodeId). is_repeated l nodes.here.node) (sym line) in
    let again : true ≡ is_repeated (line_of M w) nodes.here.node = c.if-stands_again.ensures ∙ along in (
      λ no. absurd (false≢true no),
      λ is. absurd (false≢true (once M P w i nodes about is ∙ sym again)),
    )

pub returns : goal.returns
returns g c =
    let M = g.M.World.objects c.args.network.now.world.now in
    let P = g.P.Profile.rules c.args.network.now.profile in
    let known = sym (open_road M P c.of.result c.of.ensures.directions) ∙ sym c.if-not-is_open.ensures in
    let road = subst (λ v. is_road M P v ≡ true) c.of.ensures.way known in
    let nodes = c.in-Some-neighbours_of.nodes in
    let w = c.args.way in
    let refs = (c.in-Some.body.now).refs in
    let line : line_of M w ≡ changes refs = visible_line M w c.in-Some.body.now (sym c.in-Some.ensures) in
    let i = c.args.position in
    let seen = c.in-Some-neighbours_of.ensures.some in
    let about = subst (λ (l : List NodeId). AreNeighbours (map (line_node M P) l) i nodes) (sym line) seen in
    let along : is_repeated (changes refs) nodes.here.node ≡ is_repeated (line_of M w) nodes.here.node =
    ap (λ (l : List NodeId). is_repeated l nodes.here.node) (sym line) in
    let alone : false ≡ is_repeated (line_of M w) nodes.here.node = c.if-stands_again.ensures ∙ along in (
      λ yes. plain_from M P w i nodes about road alone (c.is_passed.ensures.0 yes),
      λ is. c.is_passed.ensures.1 (passed M P w i nodes about is),
    )
