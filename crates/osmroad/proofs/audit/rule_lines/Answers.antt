use Rattle.std.proofs.Common.{List, take, get_or, pos, subst, sym, ◌≡◌, ◌++◌, ℕ, rules, ◌+◌}
use Rattle.std.specs.String.{string_bytes}
use Rattle.std.proofs.lemmas.List.{take_more}
use Rattle.road_base.specs.declared.ids.RelationId.{RelationId}
use Rattle.osmroad.specs.Audit.{AreRuleLines}
use Rattle.osmroad.proofs.AuditLines.{one_more_line}
use Rattle.osmroad.proofs.audit.rule_lines.Goals as goal

pub loop-relation-preserved : goal.loop-relation-preserved
loop-relation-preserved g c =
    let M = c.args.network.now.world.now in
    let P = g.P.Profile.rules c.args.network.now.profile in
    let all = c.args.rules.now in
    let i = c.loop-relation.relation-index in
    let none : RelationId = record { 0 = pos 0 } in
    let more = take_more all i none c.loop-relation-test.true in
    let old = string_bytes c.loop-relation.text in
    let line = string_bytes c.in_ok-line.line in
    let pushed : string_bytes c.push_str.new.self ≡ old ++ line = search rules in
    let lines = one_more_line M P (take i all) (get_or all i none) old line c.loop-relation.invariant
    c.in_ok-line.ensures
    in
    subst (λ (t : List ℕ). AreRuleLines M P (take (i + 1) all) t) (sym pushed)
    (subst (λ (l : List RelationId). AreRuleLines M P l (old ++ line)) (sym more) lines)
