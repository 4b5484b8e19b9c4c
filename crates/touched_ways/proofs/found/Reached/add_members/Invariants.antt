use Rattle.std.proofs.Common.{◌≡◌, take}
use Rattle.touched_ways.specs.Searches.{Finds, GivenBy, IsNodeOrWay}
use Rattle.touched_ways.proofs.found.Reached.add_members.Given as goal

-- what the members so far give was found
abbrev pub invariant-loop-member : goal.invariant-loop-member
invariant-loop-member l =
    Finds l.fn.self l.self (GivenBy (λ m k. (k ≡ m.item) × IsNodeOrWay k) (take l.member-index l.members))
