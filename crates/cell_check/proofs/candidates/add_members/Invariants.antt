use Rattle.std.proofs.Common.{◌≡◌, ◌++◌, map, take}
use Rattle.cell_check.proofs.candidates.add_members.Given as goal

abbrev pub invariant-loop-member : goal.invariant-loop-member
invariant-loop-member l = l.keys.items ≡ l.initial.keys.items ++ map (λ m. m.item) (take l.member-index l.members)
