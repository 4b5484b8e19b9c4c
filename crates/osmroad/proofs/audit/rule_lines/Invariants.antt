use Rattle.std.proofs.Common.{take}
use Rattle.std.specs.String.{string_bytes}
use Rattle.osmroad.specs.Audit.{AreRuleLines}
use Rattle.osmroad.proofs.audit.rule_lines.Given as goal

-- the lines of the restrictions so far are written
abbrev pub invariant-loop-relation : goal.invariant-loop-relation
invariant-loop-relation g l = AreRuleLines l.network.world.now (g.P.Profile.rules l.network.profile)
    (take l.relation-index l.rules) (string_bytes l.text)
