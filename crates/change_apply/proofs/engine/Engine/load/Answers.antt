use Rattle.std.specs.FinMap.{empty}
use Rattle.change_apply.proofs.BuiltBlocks.{few_built}
use Rattle.change_apply.proofs.engine.Engine.load.Goals as goal

pub returns-in_err-blocks-clause-built : goal.returns-in_err-blocks-clause-built
returns-in_err-blocks-clause-built g c =
    few_built empty c.args.events.items c.args.steps.now c.build.new.steps
    (λ A B. c.one_map.ensures empty A B c.args.events.items)
    c.in_ok-world.world c.in_ok-world.ensures c.build.ensures.few

pub returns-clause-built : goal.returns-clause-built
returns-clause-built g c =
    few_built empty c.args.events.items c.args.steps.now c.build.new.steps
    (λ A B. c.one_map.ensures empty A B c.args.events.items)
    c.in_ok-world.world c.in_ok-world.ensures c.build.ensures.few
