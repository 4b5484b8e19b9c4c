-- A step that follows and isn't stopped goes on; one that is stopped breaks a rule on words.
use Rattle.drive_judging.proofs.JudgedDrives.{word_breaks, keeps_on}
use Rattle.drive_judging.proofs.judging.judge_step.Goals as goal

pub returns-in-Some-go-clause-goes : goal.returns-in-Some-go-clause-goes
returns-in-Some-go-clause-goes g c =
    let M = g.M.World.objects c.args.network.now.world.now in
    let P = g.P.Profile.rules c.args.network.now.profile in
    let before = c.args.before.now in
    let words = c.args.table.now.automaton.words in
    let stopped = c.go.ensures.stopped before c.requires.watches in
    let some = c.in-Some-go.is in
    keeps_on M P before c.args.step words c.requires.words c.in_default.ensures.none
    (λ s. let none = stopped.1 s in cc)
    (λ front end x is m. c.unstopped_is_demanded.ensures words before c.args.step (λ s. let none = stopped.1 s in cc)
    front end x is m)

pub returns-in-None-clause-breaks : goal.returns-in-None-clause-breaks
returns-in-None-clause-breaks g c =
    word_breaks (g.M.World.objects c.args.network.now.world.now) (g.P.Profile.rules c.args.network.now.profile)
    c.args.before.now
    c.args.step c.args.table.now.automaton.words c.requires.words c.in_default.ensures.none c.word_rule.result
    c.word_rule.ensures
