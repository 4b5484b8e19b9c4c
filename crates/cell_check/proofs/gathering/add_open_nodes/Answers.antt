use Rattle.std.proofs.Common.{◌↔◌, ◌+◌, Bool, IsTrue, sym, subst, take, ◌∙◌}
use Rattle.std.proofs.lemmas.Bool.{false≢true}
use Rattle.road_base.specs.declared.ids.Key.TheVariants.{Node as NodeKey}
use Rattle.cell_check.specs.Closing.{HasNodeIn}
use Rattle.cell_check.proofs.OpenedKeys.{adds_next, yes_now, still, of_all}
use Rattle.cell_check.proofs.gathering.add_open_nodes.Goals as goal
use Rattle.cell_check.proofs.gathering.add_open_nodes.Goals.{then-branch, else-branch}

pub loop-node-preserved : goal.loop-node-preserved
loop-node-preserved g c =
    let M = g.M.World.objects c.args.world.now in
    let area = c.args.area.now in
    let nodes = c.args.nodes.now in
    let i = c.loop-node.node-index in
    let known : Bool → Type 0 = λ b. IsTrue b ↔ HasNodeIn M area (take (i + 1) nodes) in
    record {
      opened = adds_next M area (λ n. NodeKey n) c.args.starts.now.items c.loop-node.starts.items
          c.add_open_node.new.starts.items nodes i _ c.loop-node-test.true c.loop-node.invariant.opened
          c.in_ok-add_open_node.ensures.open;
      known = elim c.if-branch.branch [
        | then-branch w ↦ subst known (sym w.has_closed-is)
            (yes_now M area nodes i _ c.loop-node-test.true (c.in_ok-add_open_node.ensures.closed.0 w.if-branch.true))
        | else-branch w ↦ subst known (sym w.has_closed-is)
            (still M area c.loop-node.has_closed nodes i _ c.loop-node-test.true c.loop-node.invariant.known
            (λ l. false≢true (sym w.if-branch.false ∙ c.in_ok-add_open_node.ensures.closed.1 l)))
      ];
    }

pub returns-clause-closed : goal.returns-clause-closed
returns-clause-closed g c =
    of_all (g.M.World.objects c.args.world.now) c.args.area.now c.loop-node.has_closed c.args.nodes.now
    c.loop-node.node-index c.loop-node-test.false c.loop-node.invariant.known
