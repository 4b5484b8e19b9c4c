use Rattle.std.proofs.Common.{arith}
use Rattle.turn_automata.proofs.AutomatonStates.{longer}
use Rattle.turn_automata.proofs.tree.list_len.Goals as goal

pub loop-rest-preserved : goal.loop-rest-preserved
loop-rest-preserved c =
    let less = c.edge-from.ensures.less in
    let old = c.loop-rest.invariant in
    record {
      within = omega (arith, less, old.within);
      fits = omega (arith, less, old.fits);
      steps = λ p st. let q = old.steps p st in longer c.args.tree.now c.loop-rest.rest c.edge-from.result.0
          c.edge-from.result.1 q.0 q.1 (omega (arith, less, old.within)) c.edge-from.ensures.is _ c.loop-rest.len q.2;
    }
