-- The way's pairs are looked at in order, and a step that can be driven names one of them.
use Rattle.std.proofs.Common.{◌≡◌, ◌+◌, [], length, ap, refl, sym, ◌∙◌, arith}
use Rattle.road_model.specs.Lines.{line_of}
use Rattle.way_lines.specs.Left.{nodes_left}
use Rattle.way_lines.proofs.NamedPairs.{no_way}
use Rattle.way_lines.proofs.WalkedLines.{behind_front, visible_line, node_there, before_last, no_line, one_more}
use Rattle.way_lines.proofs.passing.none_but.Goals as goal

pub returns-in_default : goal.returns-in_default
returns-in_default g c = (
  λ yes u on goes. absurd (no_way (g.M.World.objects c.args.network.now.world.now)
      (g.P.Profile.rules c.args.network.now.profile) c.args.way c.in_default.ensures u on goes.drives),
  λ h. refl,
)

pub returns-in_default-next : goal.returns-in_default-next
returns-in_default-next g c =
    let M = g.M.World.objects c.args.network.now.world.now in
    let line : nodes_left c.line-nodes.result ≡ line_of M c.args.way =
    c.line-nodes.ensures.nodes ∙ visible_line M c.args.way c.in-Some.body.now c.in-Some.ensures in
    let none : line_of M c.args.way ≡ [] = sym line ∙ c.in_default-next.ensures.steps.0 in (
      λ yes u on goes. absurd (no_line M (g.P.Profile.rules c.args.network.now.profile) c.args.way none u on
          goes.drives),
      λ h. refl,
    )

pub loop-second-init : goal.loop-second-init
loop-second-init g c =
    let M = g.M.World.objects c.args.network.now.world.now in
    let line : nodes_left c.line-nodes.result ≡ line_of M c.args.way =
    c.line-nodes.ensures.nodes ∙ visible_line M c.args.way c.in-Some.body.now c.in-Some.ensures in
    let short = c.line-nodes.ensures.short in
    let same : length (nodes_left c.line-nodes.result) ≡ length (line_of M c.args.way) = ap length line in
    record {
      behind = sym line ∙ c.in-Some-next.ensures.steps;
      short = omega arith;
      others = λ u on below goes. absurd (omega arith);
    }

pub other_leaves-requires-clause-first : goal.other_leaves-requires-clause-first
other_leaves-requires-clause-first g c =
    node_there (g.M.World.objects c.args.network.now.world.now) c.args.way c.loop-second.index c.loop-second.first
    (nodes_left c.loop-second.nodes) c.loop-second.invariant.behind

pub other_leaves-requires-clause-second : goal.other_leaves-requires-clause-second
other_leaves-requires-clause-second g c =
    let M = g.M.World.objects c.args.network.now.world.now in
    let behind = behind_front (line_of M c.args.way) c.loop-second.index c.loop-second.first
    (nodes_left c.loop-second.nodes) c.loop-second.invariant.behind in
    node_there M c.args.way (c.loop-second.index + 1) c.in-Some-next-2.second
    (nodes_left c.next-in-loop-second.new.self) (behind ∙ c.in-Some-next-2.ensures.steps)

pub loop-second-preserved : goal.loop-second-preserved
loop-second-preserved g c =
    let M = g.M.World.objects c.args.network.now.world.now in
    let behind = behind_front (line_of M c.args.way) c.loop-second.index c.loop-second.first
    (nodes_left c.loop-second.nodes) c.loop-second.invariant.behind in
    record {
      behind = behind ∙ c.in-Some-next-2.ensures.steps;
      short = c.loop-second.invariant.short;
      others = one_more M (g.P.Profile.rules c.args.network.now.profile) c.args.node c.args.step c.args.way
          c.loop-second.index c.loop-second.invariant.others (c.if-other_leaves.ensures.0 refl);
    }

pub returns : goal.returns
returns g c =
    let M = g.M.World.objects c.args.network.now.world.now in
    let P = g.P.Profile.rules c.args.network.now.profile in (
      λ yes u on goes.
          let before = before_last M P c.args.way c.loop-second.index c.loop-second.first
          (nodes_left c.loop-second.nodes) c.loop-second.invariant.behind c.in_default-next-2.ensures.steps.0 u on
          goes.drives in
          c.loop-second.invariant.others u on before goes,
      λ h. refl,
    )
