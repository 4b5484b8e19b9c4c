use Rattle.std.proofs.Common.{List, Contains, sym, subst}
use Rattle.road_base.specs.declared.ids.Key.{Key}
use Rattle.cell_check.proofs.candidates.rules_and_members.Goals as goal

pub returns : goal.returns
returns c k has =
    (c.leave_once.ensures.exactly k).1 (subst (λ (l : List Key). Contains l k) (sym c.in_ok-keys.ensures) has)
