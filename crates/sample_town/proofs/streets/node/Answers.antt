use Rattle.std.proofs.Common.{◌≡◌, refl, ◌+◌, ◌*◌, pos, to_z, w32, arith}
use Rattle.std.proofs.lemmas.Int.{ints}
use Rattle.sample_town.proofs.SameEvents.{is_node}
use Rattle.sample_town.proofs.streets.node.Goals as goal

pub returns : goal.returns
returns c =
    let lon : to_z w32 (10000 * c.args.at.column + c.args.change) ≡ pos (10000 * c.args.at.column + c.args.change) =
    omega (arith, ints) in
    let lat : to_z w32 (10000 * c.args.at.row) ≡ pos (10000 * c.args.at.row) = omega (arith, ints) in
    is_node _ c.args.change c.args.at.row c.args.at.column c.node.result c.new.result _ refl refl refl
    c.node.ensures (cc) lon lat
