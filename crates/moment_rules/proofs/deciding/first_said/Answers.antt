use Rattle.std.proofs.Common.{refl, sym, ap, ◌∙◌}
use Rattle.std.proofs.lemmas.List.{drop_all}
use Rattle.moment_rules.specs.MomentDecisions.{first_said, said_by_either}
use Rattle.moment_rules.proofs.MomentKeys.{decided_at, passed_at}
use Rattle.moment_rules.proofs.deciding.first_said.Goals as goal

pub loop-key-init : goal.loop-key-init
loop-key-init c = refl

pub returns-in-Some : goal.returns-in-Some
returns-in-Some c =
    decided_at (said_by_either c.args.at c.args.tags.now) c.args.keys.now c.loop-key.key-index _ c.said_by_either.result
    c.in-Some.decision c.loop-key-test.true c.said_by_either.ensures c.in-Some.is c.loop-key.invariant

pub loop-key-preserved : goal.loop-key-preserved
loop-key-preserved c =
    passed_at (said_by_either c.args.at c.args.tags.now) c.args.keys.now c.loop-key.key-index _ c.said_by_either.result
    c.loop-key-test.true c.said_by_either.ensures c.in_default.is c.loop-key.invariant

pub returns : goal.returns
returns c =
    sym (c.loop-key.invariant ∙ ap (first_said (said_by_either c.args.at c.args.tags.now))
    (drop_all c.loop-key.key-index c.args.keys.now c.loop-key-test.false))
