use Rattle.std.proofs.Common.{rules, List}
use Rattle.std.proofs.lemmas.Fn.{always_returns_same}
use Rattle.road_model.specs.declared.lists.PieceName.{PieceName}
use Rattle.road_model.specs.declared.lists.Context.{Context}
use Rattle.road_model.specs.Orders.{names_cmp}
use Rattle.context_search.proofs.NamedMembers.{missed, found}
use Rattle.context_search.proofs.look_ups.context_among.Goals as goal

abbrev names_before : Context → List PieceName
names_before c = c.before

pub returns-in-Ok-clause-named : goal.returns-in-Ok-clause-named
returns-in-Ok-clause-named c =
    let o = c.name_order.ensures in
    found names_before names_cmp o.lists o.list_ties c.args.before.now c.args.contexts.now c.in-Ok.at
    c.index-contexts-at.result c.index-contexts-at.is
    (c.in-Ok.ensures.position (λ x. names_cmp x.before c.args.before.now)
    (always_returns_same _ _ _ (λ a r g called. (search rules, search rules))))

pub returns-in-Err-clause-none : goal.returns-in-Err-clause-none
returns-in-Err-clause-none c =
    let o = c.name_order.ensures in
    missed names_before names_cmp o.lists c.args.before.now c.args.contexts.now c.in-Err.field-0 c.requires
    (c.in-Err.ensures.position (λ x. names_cmp x.before c.args.before.now)
    (always_returns_same _ _ _ (λ a r g called. (search rules, search rules))))
