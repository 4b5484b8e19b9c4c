use Rattle.std.proofs.Common.{sym, subst, map, List, Contains, IsTrue}
use Rattle.graph_blocks.specs.Lent.{map_of}
use Rattle.road_model.specs.declared.lists.Piece.{Piece}
use Rattle.ordered_lists.specs.Orders.{rises}
use Rattle.road_model.specs.Orders.{name_cmp}
use Rattle.context_search.proofs.LookUps.{in_blocks, none_in_blocks, no_block}
use Rattle.context_search.proofs.look_ups.spot_at.Goals as goal

pub spot_among-requires-clause-pieces : goal.spot_among-requires-clause-pieces
spot_among-requires-clause-pieces c =
    subst (λ (l : List Piece). IsTrue (rises name_cmp (map (λ p. p.name) l))) (sym c.items.ensures)
    (c.requires.pieces c.args.piece.way c.in-Some.block.now (sym c.in-Some.ensures))

pub spot_among-requires-clause-contexts : goal.spot_among-requires-clause-contexts
spot_among-requires-clause-contexts c p has =
    c.requires.contexts c.args.piece.way c.in-Some.block.now (sym c.in-Some.ensures) p
    (subst (λ (l : List Piece). Contains l p) c.items.ensures has)

pub returns-in-Some-clause-listed : goal.returns-in-Some-clause-listed
returns-in-Some-clause-listed c =
    let m = map_of c.args.blocks.now in
    in_blocks m c.requires (c.values_in_order.ensures.each m c.requires.ways) c.args.piece.way c.in-Some.block.now
    (sym c.in-Some.ensures) c.items.result.now c.items.ensures c.spot_among.result c.spot_among.ensures.listed

pub returns-in-Some-clause-none : goal.returns-in-Some-clause-none
returns-in-Some-clause-none c =
    let m = map_of c.args.blocks.now in
    none_in_blocks m c.requires (c.values_in_order.ensures.each m c.requires.ways) c.args.piece c.args.before.now
    c.in-Some.block.now (sym c.in-Some.ensures) c.items.result.now c.items.ensures c.spot_among.result
    c.spot_among.ensures.none

pub returns-in-None-clause-none : goal.returns-in-None-clause-none
returns-in-None-clause-none c =
    let m = map_of c.args.blocks.now in
    no_block m c.requires (c.values_in_order.ensures.each m c.requires.ways) c.args.piece c.args.before.now
    (sym c.in-None.ensures)
