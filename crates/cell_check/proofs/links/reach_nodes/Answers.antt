use Rattle.std.proofs.Common.{◌≡◌}
use Rattle.road_base.specs.declared.ids.Key.TheVariants.{Node as NodeKey}
use Rattle.cell_check.specs.Searches.{FromStart}
use Rattle.cell_check.proofs.FoundKeys.{finds_first, finds_next, finds_all, finds_given}
use Rattle.cell_check.proofs.links.reach_nodes.Goals as goal

pub loop-node-init : goal.loop-node-init
loop-node-init c =
    finds_first (λ n. FromStart c.args.start (λ k. k ≡ NodeKey n)) c.args.search.now c.args.nodes.now

pub loop-node-preserved : goal.loop-node-preserved
loop-node-preserved c =
    finds_next (λ n. FromStart c.args.start (λ k. k ≡ NodeKey n)) c.args.search.now c.loop-node.search
    c.reach.new.self c.args.nodes.now c.loop-node.node-index _ c.loop-node-test.true c.loop-node.invariant
    c.in_ok-reach.ensures

pub returns : goal.returns
returns c =
    finds_given (λ n k. k ≡ NodeKey n) c.args.start c.args.search.now c.loop-node.search c.args.nodes.now
    (finds_all (λ n. FromStart c.args.start (λ k. k ≡ NodeKey n)) c.args.search.now c.loop-node.search
    c.args.nodes.now c.loop-node.node-index c.loop-node-test.false c.loop-node.invariant)
