use Rattle.std.proofs.Common.{◌≡◌, ◌++◌, OnOk, IfSome, option_copied, ap, sym, subst, ◌∙◌}
use Rattle.std.specs.Option.{option_map}
use Rattle.road_base.specs.Applying.{entry_of}
use Rattle.back_references.specs.References.{ways_with_rule, rule_members, way_rules_at}
use Rattle.back_references.proofs.ExchangedPairs.{none_added}
use Rattle.back_references.proofs.NamedObjects.{at_some, at_none}
use Rattle.back_references.proofs.collecting.add_way_rules_at.Goals as goal

pub returns-in-Some : goal.returns-in-Some
returns-in-Some c =
    let M = c.args.objects.now in
    let e = c.in-Some.event.now in
    let same = at_some (λ k body. ways_with_rule k (rule_members body)) M c.args.key e
    (sym c.get.ensures.entry ∙ ap (λ o. option_map entry_of (option_copied o)) c.in-Some.is)
    (subst (λ o. IfSome (option_copied o) (λ x. x.key ≡ c.args.key)) c.in-Some.is c.get.ensures.key) in
    subst (λ l. OnOk c.add_way_rules.result (c.add_way_rules.new.pairs.items ≡ c.args.pairs.now.items ++ l)) same
    c.add_way_rules.ensures

pub returns-in-None : goal.returns-in-None
returns-in-None c =
    none_added c.args.pairs.now.items (way_rules_at c.args.objects.now c.args.key)
    (at_none (λ k body. ways_with_rule k (rule_members body)) c.args.objects.now c.args.key
    (sym c.get.ensures.entry ∙ ap (λ o. option_map entry_of (option_copied o)) c.in-None.is))
