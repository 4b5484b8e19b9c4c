use Rattle.std.proofs.Common.{refl}
use Rattle.cells.proofs.AreaWords.{area_made, passed_on}
use Rattle.cells.proofs.areas.area_between.Goals as goal

pub returns-then-is_in_world-2 : goal.returns-then-is_in_world-2
returns-then-is_in_world-2 c =
    let west = c.ranges.west in
    let south = c.ranges.south in
    let east = c.ranges.east in
    let north = c.ranges.north in
    area_made c.args.west c.args.south c.args.east c.args.north west south east north
    (passed_on c.args.west c.args.south west south c.if-is_in_world.ensures)
    (passed_on c.args.east c.args.north east north c.if-is_in_world-2.ensures) _ refl refl refl refl
