use Rattle.std.proofs.Common.{rules, List}
use Rattle.std.proofs.lemmas.Fn.{always_returns_same}
use Rattle.road_model.specs.declared.lists.PieceName.{PieceName}
use Rattle.context_search.specs.Marks.{at_of, key_of, key_cmp}
use Rattle.context_search.proofs.SearchKeys.{found, missed}
use Rattle.context_search.proofs.spots.find_spot.Goals as goal

pub returns-in-Ok-clause-some : goal.returns-in-Ok-clause-some
returns-in-Ok-clause-some c =
    let o = c.name_order.ensures in
    let k : PieceName × List PieceName = (c.args.piece, c.args.before.now) in
    found o.names o.lists c.args.spots.now k o.name_ties o.list_ties c.in-Ok.number
    (c.in-Ok.ensures.position (λ s. key_cmp (key_of (at_of s)) k)
    (always_returns_same _ _ _ (λ a r g called. (search rules, search rules))))

pub returns-in-Err-clause-none : goal.returns-in-Err-clause-none
returns-in-Err-clause-none c =
    let o = c.name_order.ensures in
    let k : PieceName × List PieceName = (c.args.piece, c.args.before.now) in
    missed o.names o.lists c.args.spots.now k c.in-Err.field-0 c.requires
    (c.in-Err.ensures.position (λ s. key_cmp (key_of (at_of s)) k)
    (always_returns_same _ _ _ (λ a r g called. (search rules, search rules))))
