-- The way's pairs are gone over in order, and a step that can be driven names one of them.
use Rattle.std.proofs.Common.{◌≡◌, ◌+◌, [], inl, inr, length, ap, sym, ◌∙◌, arith}
use Rattle.road_model.specs.Lines.{line_of}
use Rattle.way_lines.specs.Left.{nodes_left}
use Rattle.way_lines.proofs.NamedPairs.{no_way}
use Rattle.way_lines.proofs.WalkedLines.{behind_front, visible_line, node_there, before_last, no_line}
use Rattle.drive_judging.specs.DeadEnds.{StepsOf, StepsBelow}
use Rattle.drive_judging.proofs.NodesLeft.{closed, fewer, way_more}
use Rattle.drive_judging.proofs.dead_ends.add_way.Goals as goal

pub returns-then-not-is_open : goal.returns-then-not-is_open
returns-then-not-is_open g c ways done noted =
    let M = g.M.World.objects c.args.network.now.world.now in
    let P = g.P.Profile.rules c.args.network.now.profile in
    way_more M P ways done c.args.way (StepsOf done) c.args.known.now (λ u k. k)
    (λ u on drives. absurd (closed M P c.of-road.result c.of-road.ensures.directions
    (sym c.is_open.ensures ∙ c.if-not-is_open.true) u (on ∙ sym c.of-road.ensures.way) drives)) noted

pub returns-in_default : goal.returns-in_default
returns-in_default g c ways done noted =
    let M = g.M.World.objects c.args.network.now.world.now in
    let P = g.P.Profile.rules c.args.network.now.profile in
    way_more M P ways done c.args.way (StepsOf done) c.args.known.now (λ u k. k)
    (λ u on drives. absurd (no_way M P c.args.way c.in_default.ensures u on drives)) noted

pub returns-in_default-next : goal.returns-in_default-next
returns-in_default-next g c ways done noted =
    let M = g.M.World.objects c.args.network.now.world.now in
    let P = g.P.Profile.rules c.args.network.now.profile in
    let line : nodes_left c.line-nodes.result ≡ line_of M c.args.way =
    c.line-nodes.ensures.nodes ∙ visible_line M c.args.way c.in-Some.body.now c.in-Some.ensures in
    let none : line_of M c.args.way ≡ [] = sym line ∙ c.in_default-next.ensures.steps.0 in
    way_more M P ways done c.args.way (StepsOf done) c.args.known.now (λ u k. k)
    (λ u on drives. absurd (no_line M P c.args.way none u on drives)) noted

pub loop-second-init : goal.loop-second-init
loop-second-init g c =
    let M = g.M.World.objects c.args.network.now.world.now in
    let P = g.P.Profile.rules c.args.network.now.profile in
    let w = c.of-road.result.way in
    let line : nodes_left c.line-nodes.result ≡ line_of M w =
    c.line-nodes.ensures.nodes ∙ (visible_line M c.args.way c.in-Some.body.now c.in-Some.ensures
    ∙ ap (line_of M) (sym c.of-road.ensures.way)) in
    let short = c.line-nodes.ensures.short in
    let same : length (nodes_left c.line-nodes.result) ≡ length (line_of M w) = ap length line in
    record {
      behind = sym line ∙ c.in-Some-next.ensures.steps;
      short = omega arith;
      noted = λ ways done noted. fewer M P ways (StepsOf done) (StepsBelow done w 0) c.args.known.now
          (λ u drives which. elim which [ inl k ↦ k | inr none ↦ absurd (let below = none.1 in omega arith) ]) noted;
    }

pub add_pair-requires-clause-first : goal.add_pair-requires-clause-first
add_pair-requires-clause-first g c =
    node_there (g.M.World.objects c.args.network.now.world.now) c.of-road.result.way c.loop-second.index
    c.loop-second.first (nodes_left c.loop-second.nodes) c.loop-second.invariant.behind

pub add_pair-requires-clause-second : goal.add_pair-requires-clause-second
add_pair-requires-clause-second g c =
    let M = g.M.World.objects c.args.network.now.world.now in
    let w = c.of-road.result.way in
    let behind = behind_front (line_of M w) c.loop-second.index c.loop-second.first
    (nodes_left c.loop-second.nodes) c.loop-second.invariant.behind in
    node_there M w (c.loop-second.index + 1) c.in-Some-next-2.second
    (nodes_left c.next-in-loop-second.new.self) (behind ∙ c.in-Some-next-2.ensures.steps)

pub loop-second-preserved : goal.loop-second-preserved
loop-second-preserved g c =
    let M = g.M.World.objects c.args.network.now.world.now in
    let behind = behind_front (line_of M c.of-road.result.way) c.loop-second.index c.loop-second.first
    (nodes_left c.loop-second.nodes) c.loop-second.invariant.behind in
    record {
      behind = behind ∙ c.in-Some-next-2.ensures.steps;
      short = c.loop-second.invariant.short;
      noted = λ ways done noted. c.in_ok-add_pair.ensures ways done (c.loop-second.invariant.noted ways done noted);
    }

pub returns : goal.returns
returns g c ways done noted =
    let M = g.M.World.objects c.args.network.now.world.now in
    let P = g.P.Profile.rules c.args.network.now.profile in
    let w = c.of-road.result.way in
    way_more M P ways done c.args.way (StepsBelow done w c.loop-second.index) c.loop-second.known (λ u k. inl k)
    (λ u on drives.
    let there : u.way ≡ w = on ∙ sym c.of-road.ensures.way in
    inr (
      there,
      before_last M P w c.loop-second.index c.loop-second.first (nodes_left c.loop-second.nodes)
          c.loop-second.invariant.behind c.in_default-next-2.ensures.steps.0 u there drives,
    ))
    (c.loop-second.invariant.noted ways done noted)
