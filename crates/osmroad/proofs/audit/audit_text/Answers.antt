use Rattle.std.proofs.Common.{◌≡◌, ◌++◌, ◌∙◌, List, IsTrue, length, sym, ap, subst, rules}
use Rattle.std.specs.Prelude.{filter_map}
use Rattle.std.specs.String.{string_bytes}
use Rattle.road_base.specs.declared.event.Event.{Event}
use Rattle.road_base.specs.declared.ids.RelationId.{RelationId}
use Rattle.road_base.specs.Objects.{Objects}
use Rattle.ordered_lists.specs.Orders.{rises}
use Rattle.road_model.specs.Orders.{relation_cmp}
use Rattle.object_store.specs.Listed.{AreEntriesOf, is_any}
use Rattle.ordered_lists.proofs.ListMembers.{In}
use Rattle.osmroad.specs.Audit.{IsAudit, restriction_of, conditional_line, conditional_count}
use Rattle.osmroad.proofs.AuditLines.{whole_audit, count_is}
use Rattle.osmroad.proofs.VisibleRestrictions.{all_restrictions, restriction_is_told, restrictions_rise}
use Rattle.osmroad.proofs.audit.audit_text.Goals as goal

pub rule_lines-requires : goal.rule_lines-requires
rule_lines-requires g c =
    let M = c.args.network.now.world.now in
    let exactly : AreEntriesOf is_any M c.walk.result =
    subst (λ (N : Objects). AreEntriesOf is_any N c.walk.result) c.objects-objects.ensures c.walk.ensures.exactly in
    all_restrictions M c.walk.result exactly c.deref.result.now (c.deref.ensures.value ∙ c.in_ok-rules.ensures)

pub returns : goal.returns
returns g c =
    let M = c.args.network.now.world.now in
    let P = g.P.Profile.rules c.args.network.now.profile in
    let all = c.deref.result.now in
    let told : List RelationId = filter_map (λ (e : Event). restriction_of e.key e.body) c.walk.result in
    let are : all ≡ told = c.deref.ensures.value ∙ c.in_ok-rules.ensures in
    let exactly : AreEntriesOf is_any M c.walk.result =
    subst (λ (N : Objects). AreEntriesOf is_any N c.walk.result) c.objects-objects.ensures c.walk.ensures.exactly in
    let ascending = subst (λ (l : List RelationId). IsTrue (rises relation_cmp l)) (sym are)
    (restrictions_rise c.key_order.ensures.total c.walk.result c.walk.ensures.in_order) in
    let text = string_bytes c.in_ok-text.text in
    let count = c.len.result in
    let counted : count ≡ conditional_count M
    = c.len.ensures ∙ c.in_ok-keys.keys.ok.0 ∙ ap length c.in_ok-keys.ensures
    ∙ count_is c.objects-objects.result.now c.walk-2.result c.walk-2.ensures.entries
    ∙ ap conditional_count c.objects-objects.ensures in
    let pushed : string_bytes c.push_str.new.self ≡ text ++ conditional_line count = search rules in
    subst (IsAudit M P) (sym pushed)
    (whole_audit M P all ascending
    (λ r rule. subst (λ (l : List RelationId). In r l) (sym are) (restriction_is_told M c.walk.result exactly r rule))
    text count c.in_ok-text.ensures counted)
