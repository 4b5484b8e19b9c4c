use Rattle.std.proofs.Common.{rules, ap, sym, ◌∙◌, Some}
use Rattle.std.proofs.lemmas.Fn.{always_returns_same}
use Rattle.road_model.specs.declared.lists.PieceName.{PieceName}
use Rattle.road_model.specs.declared.lists.Piece.{Piece}
use Rattle.road_model.specs.Orders.{name_cmp}
use Rattle.context_search.proofs.NamedMembers.{missed, found, one_named}
use Rattle.context_search.proofs.look_ups.piece_among.Goals as goal

abbrev name_in : Piece → PieceName
name_in p = p.name

pub returns-in-Ok-clause-named : goal.returns-in-Ok-clause-named
returns-in-Ok-clause-named c =
    let o = c.name_order.ensures in
    found name_in name_cmp o.names o.name_ties c.args.name c.args.pieces.now c.in-Ok.at c.index-pieces-at.result
    c.index-pieces-at.is
    (c.in-Ok.ensures.position (λ p. name_cmp p.name c.args.name)
    (always_returns_same _ _ _ (λ a r g called. (search rules, search rules))))

pub returns-in-Ok-clause-only : goal.returns-in-Ok-clause-only
returns-in-Ok-clause-only c p has e =
    let o = c.name_order.ensures in
    let x = c.index-pieces-at.result in
    let named = found name_in name_cmp o.names o.name_ties c.args.name c.args.pieces.now c.in-Ok.at x
    c.index-pieces-at.is
    (c.in-Ok.ensures.position (λ p. name_cmp p.name c.args.name)
    (always_returns_same _ _ _ (λ a r g called. (search rules, search rules)))) in
    ap Some (one_named name_in name_cmp o.names c.args.pieces.now c.requires x p
    (c.in-Ok.at, c.in-Ok.ensures.bound, sym c.index-pieces-at.is) has (named ∙ sym e))

pub returns-in-Err-clause-only : goal.returns-in-Err-clause-only
returns-in-Err-clause-only c p has e =
    let o = c.name_order.ensures in
    absurd (missed name_in name_cmp o.names c.args.name c.args.pieces.now c.in-Err.field-0 c.requires
    (c.in-Err.ensures.position (λ p. name_cmp p.name c.args.name)
    (always_returns_same _ _ _ (λ a r g called. (search rules, search rules)))) p has e)
