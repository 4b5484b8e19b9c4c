use Rattle.pinned_readers.proofs.HeldFollowers.{newest_objects}
use Rattle.session_replies.proofs.RoadAnswers.{ok_anyway, err_anyway, touched, costs_most, costs_some}
use Rattle.session_replies.proofs.answerer.RoadAnswererAnswerer.follow.Goals as goal

pub returns-clause-few : goal.returns-clause-few
returns-clause-few g c =
    let readers = c.args.self.now.readers in
    let M = readers.newest.engine.world in
    let events = c.args.events.now in
    ok_anyway c.apply.result _ (λ h pins O stands next has.
    costs_most M O events c.args.steps.now c.apply.new.steps
    (c.history_objects.ensures.one h O M has (newest_objects _ readers h pins stands))
    (touched c.applied_stands.ensures c.some_touched_ways.ensures M events) c.apply.ensures.few)

pub returns-clause-failed : goal.returns-clause-failed
returns-clause-failed g c =
    let readers = c.args.self.now.readers in
    let M = readers.newest.engine.world in
    err_anyway c.apply.result _ (λ h pins O stands next has.
    costs_some M O c.args.events.now c.args.steps.now c.apply.new.steps
    (c.history_objects.ensures.one h O M has (newest_objects _ readers h pins stands)) c.apply.ensures.few)
