use Rattle.touched_ways.proofs.NumberLists.{rest_as, added_as, taken_sound, taken_complete}
use Rattle.touched_ways.proofs.seen.SeenNumbers.take_in.Goals as goal

pub returns-clause-sound : goal.returns-clause-sound
returns-clause-sound g c =
    taken_sound c.args.found.items c.leave_once.new.list.items c.as_slice.result.now c.in_ok-frontier.frontier.items
    c.leave_once.ensures.exactly c.in_ok-frontier.ensures

pub returns-clause-complete : goal.returns-clause-complete
returns-clause-complete g c =
    taken_complete c.args.found.items c.leave_once.new.list.items c.args.self.now.all.items
    c.in_ok-frontier.frontier.items c.leave_once.ensures.exactly
    (rest_as c.leave_once.new.list.items c.as_slice.result.now c.args.self.now.all.items c.in_ok-frontier.frontier.items
    c.as_slice.ensures.value c.in_ok-frontier.ensures)

pub returns-clause-all : goal.returns-clause-all
returns-clause-all g c =
    added_as c.args.self.now.all.items c.add_sorted.new.list.items c.as_slice-2.result.now
    c.in_ok-frontier.frontier.items c.as_slice-2.ensures.value c.in_ok-add_sorted.ensures
