-- Events give one audit.
use Rattle.std.proofs.Common.{◌≡◌, ℕ, List, ◌++◌, sym, ap, ◌∙◌, subst}
use Rattle.std.specs.Cmp.{IsTotalOrder}
use Rattle.std.specs.List.{flat_map}
use Rattle.std.specs.FinMap.{empty}
use Rattle.road_base.specs.declared.event.Event.{Event}
use Rattle.road_base.specs.Objects.{Objects}
use Rattle.road_model.specs.Orders.{relation_cmp}
use Rattle.road_model.specs.Rules.{Rules}
use Rattle.ordered_lists.proofs.AscendingLists.{lists_unique}
use Rattle.osmroad.specs.Audit.{RuleLine, IsRuleLine, IsAudit, rule_line, conditional_line, conditional_count}
use Rattle.osmroad.specs.Audited.{IsAuditOf}
use Rattle.osmroad.proofs.CitedLaws.{OneMap}

-- the lines are known by the restrictions that they are of
one_text : IsTotalOrder relation_cmp → (M : Objects) (P : Rules) (text other : List ℕ)
    → IsAudit M P text → IsAudit M P other → text ≡ other
one_text total M P text other a b =
    let lines = lists_unique (λ (line : RuleLine). line.relation) relation_cmp total (IsRuleLine M P) a.lines b.lines
    a.listed b.listed in
    a.spelled ∙ (ap (λ (l : List RuleLine). flat_map rule_line l ++ conditional_line (conditional_count M)) lines
    ∙ sym b.spelled)

pub one_audit : IsTotalOrder relation_cmp → OneMap → (P : Rules) (events : List Event) (out other : List ℕ)
    → IsAuditOf P events out → IsAuditOf P events other → out ≡ other
one_audit total map P events out other a b =
    let objects = map empty b.objects a.objects events b.applied a.applied in
    one_text total a.objects P out other a.audit
    (subst (λ (M : Objects). IsAudit M P other) objects b.audit)
