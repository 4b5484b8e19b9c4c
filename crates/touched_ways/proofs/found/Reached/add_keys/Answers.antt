use Rattle.std.proofs.Common.{◌≡◌}
use Rattle.touched_ways.proofs.FoundKeys.{finds_first, finds_next, finds_all}
use Rattle.touched_ways.proofs.found.Reached.add_keys.Goals as goal

pub loop-key-init : goal.loop-key-init
loop-key-init c = finds_first (λ x k. k ≡ x) c.args.self.now c.args.keys.now

pub loop-key-preserved : goal.loop-key-preserved
loop-key-preserved c =
    finds_next (λ x k. k ≡ x) c.args.self.now c.loop-key.self c.add_key.new.self c.args.keys.now
    c.loop-key.key-index _ c.loop-key-test.true c.loop-key.invariant c.in_ok-add_key.ensures

pub returns : goal.returns
returns c =
    finds_all (λ x k. k ≡ x) c.args.self.now c.loop-key.self c.args.keys.now c.loop-key.key-index
    c.loop-key-test.false c.loop-key.invariant
