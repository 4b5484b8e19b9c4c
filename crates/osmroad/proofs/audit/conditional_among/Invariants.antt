use Rattle.std.proofs.Common.{◌≡◌, ◌++◌, length}
use Rattle.std.specs.Prelude.{filter_map}
use Rattle.osmroad.specs.Audit.{conditional_of}
use Rattle.osmroad.proofs.audit.conditional_among.Given as goal

-- with what is told of those that are left it is what is told of all
abbrev pub invariant-loop-entry : goal.invariant-loop-entry
invariant-loop-entry l =
    l.keys.items ++ filter_map (λ e. conditional_of e.key e.body) l.rest
    ≡ filter_map (λ e. conditional_of e.key e.body) l.fn.entries

abbrev pub decreases-loop-entry : goal.decreases-loop-entry
decreases-loop-entry l = length l.rest
