use Rattle.std.proofs.Common.{false, refl, Err}
use Rattle.touched_ways.proofs.NearLists.{found_way}
use Rattle.touched_ways.proofs.altering.is_among_next.Goals as goal

pub returns-in-Err : goal.returns-in-Err
returns-in-Err c =
    found_way c.name_order.ensures.ways c.name_order.ensures.way_ties c.args.ways.now c.args.way c.items-2.result.now
    c.items-2.ensures c.requires (Err c.in-Err.place) c.in-Err.ensures.bound c.in-Err.ensures.position false refl
