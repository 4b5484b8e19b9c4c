use Rattle.std.proofs.Common.{◌≡◌, arith, to_z, of_z, w32}
use Rattle.std.proofs.lemmas.Int.{ints}
use Rattle.opl_objects.proofs.LineEvents.{placed}
use Rattle.opl_objects.proofs.parts.place.Goals as goal

pub returns-in-Some-Some : goal.returns-in-Some-Some
returns-in-Some-Some c =
    let lon : to_z w32 (of_z w32 c.in-Some-Some.lon) ≡ c.in-Some-Some.lon = omega (arith, ints) in
    let lat : to_z w32 (of_z w32 c.in-Some-Some.lat) ≡ c.in-Some-Some.lat = omega (arith, ints) in
    placed c.args.lon c.args.lat c.in-Some-Some.lon c.in-Some-Some.lat _ c.in-Some-Some.is-0 c.in-Some-Some.is-1 lon lat
