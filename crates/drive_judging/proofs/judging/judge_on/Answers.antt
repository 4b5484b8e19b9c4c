-- The steps that go on one after the other are legal, and the first that doesn't is where the drive is broken.
use Rattle.std.proofs.Common.{◌+◌, ℕ, [], inl, refl, subst, drop, take}
use Rattle.road_model.specs.Broken.{Broken}
use Rattle.drive_judging.specs.Verdicts.{broken_rule}
use Rattle.drive_judging.proofs.JudgedDrives.{first_state, table_has, front_lines, broken, cut_at, cut_behind}
use Rattle.drive_judging.proofs.JudgedDrives.{front_length}
use Rattle.drive_judging.proofs.judging.judge_on.Goals as goal

pub loop-at-init : goal.loop-at-init
loop-at-init g c =
    let first = first_state c.args.table.now.automaton c.closed.ensures.closed in
    (first.0, first.1, inl (refl {a = []}))

pub judge_step-requires-clause-words : goal.judge_step-requires-clause-words
judge_step-requires-clause-words g c =
    let M = g.M.World.objects c.args.network.now.world.now in
    let P = g.P.Profile.rules c.args.network.now.profile in
    let drive = c.args.drive.now in
    table_has M P drive _ (drop (c.loop-at.at + 1) drive) (cut_behind drive c.loop-at.at _ c.loop-at-test.true)
    c.args.table.now.automaton.words c.requires.own.words

pub judge_step-requires-clause-lines : goal.judge_step-requires-clause-lines
judge_step-requires-clause-lines g c =
    let M = g.M.World.objects c.args.network.now.world.now in
    let drive = c.args.drive.now in
    front_lines M c.args.table.now.lines drive _ (drop (c.loop-at.at + 1) drive)
    (cut_behind drive c.loop-at.at _ c.loop-at-test.true) c.requires.own.lines

pub returns-in-Err : goal.returns-in-Err
returns-in-Err g c =
    let M = g.M.World.objects c.args.network.now.world.now in
    let P = g.P.Profile.rules c.args.network.now.profile in
    let drive = c.args.drive.now in
    subst (λ (n : ℕ). Broken M P drive (n + 1) (broken_rule c.in-Err.rule))
    (front_length drive c.loop-at.at c.loop-at-test.true)
    (broken M P (c.drive_grows.ensures.alone M) (c.drive_grows.ensures.grows M) (c.drive_parts.ensures M) drive
    (take c.loop-at.at drive) _ (drop (c.loop-at.at + 1) drive) (cut_at drive c.loop-at.at _ c.loop-at-test.true)
    c.loop-at.invariant.2 (broken_rule c.in-Err.rule) c.in-Err.ensures.breaks)
