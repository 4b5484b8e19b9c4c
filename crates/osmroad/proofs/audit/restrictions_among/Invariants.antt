use Rattle.std.proofs.Common.{◌≡◌, ◌++◌, length}
use Rattle.std.specs.Prelude.{filter_map}
use Rattle.osmroad.specs.Audit.{restriction_of}
use Rattle.osmroad.proofs.audit.restrictions_among.Given as goal

-- with what is told of those that are left it is what is told of all
abbrev pub invariant-loop-entry : goal.invariant-loop-entry
invariant-loop-entry l =
    l.rules.items ++ filter_map (λ e. restriction_of e.key e.body) l.rest
    ≡ filter_map (λ e. restriction_of e.key e.body) l.fn.entries

abbrev pub decreases-loop-entry : goal.decreases-loop-entry
decreases-loop-entry l = length l.rest
