use Rattle.pinned_readers.proofs.HeldFollowers.{fresh_needed, fresh_stands}
use Rattle.pinned_readers.proofs.readers.Readers.new.Goals as goal

pub invariant_of-result : goal.invariant_of-result
invariant_of-result g c =
    fresh_needed g.F.Follower.fixed c.args.number.0 c.args.state c.new.result c.new-2.result c.new.ensures
    c.new-2.ensures

pub returns-clause-stands : goal.returns-clause-stands
returns-clause-stands g c =
    fresh_stands g.F.Follower.objects c.args.number.0 c.args.state c.new.result c.new-2.result c.new.ensures
    c.new-2.ensures
