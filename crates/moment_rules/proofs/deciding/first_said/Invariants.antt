use Rattle.std.proofs.Common.{◌≡◌, drop}
use Rattle.moment_rules.specs.MomentDecisions.{first_said, said_by_either}
use Rattle.moment_rules.proofs.deciding.first_said.Given as goal

-- no key so far says anything
abbrev pub invariant-loop-key : goal.invariant-loop-key
invariant-loop-key l =
    first_said (said_by_either l.at l.tags) l.keys ≡ first_said (said_by_either l.at l.tags) (drop l.key-index l.keys)
