use Rattle.std.proofs.Common.{map, take}
use Rattle.cell_check.specs.Closing.{AreThere}
use Rattle.cell_check.proofs.closing.are_there.Given as goal

-- those so far are there
abbrev pub invariant-loop-member : goal.invariant-loop-member
invariant-loop-member l = AreThere l.world (map (λ m. m.item) (take l.member-index l.members))
