use Rattle.std.proofs.Common.{◌≡◌, take}
use Rattle.cell_check.specs.Searches.{Finds, FromStart, GivenFrom, IsNodeOrWay}
use Rattle.cell_check.proofs.links.reach_members.Given as goal

-- the search came to what the members so far give
abbrev pub invariant-loop-member : goal.invariant-loop-member
invariant-loop-member l =
    Finds l.fn.search l.search
    (GivenFrom (λ m. FromStart l.start (λ k. (k ≡ m.item) × IsNodeOrWay k)) (take l.member-index l.members))
