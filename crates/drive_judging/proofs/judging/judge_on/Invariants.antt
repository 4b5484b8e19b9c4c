use Rattle.std.proofs.Common.{◌<◌, length, take}
use Rattle.turn_automata.specs.Machines.{Watches}
use Rattle.drive_judging.proofs.JudgedDrives.{Begun}
use Rattle.drive_judging.proofs.judging.judge_on.Given as goal

-- the steps so far are legal, and the state is theirs
abbrev pub invariant-loop-at : goal.invariant-loop-at
invariant-loop-at g l =
    (l.state.0 < length l.table.automaton.states) × Watches l.table.automaton l.state.0 (take l.at l.drive)
    × Begun (g.M.World.objects l.network.world.now) (g.P.Profile.rules l.network.profile) (take l.at l.drive)
