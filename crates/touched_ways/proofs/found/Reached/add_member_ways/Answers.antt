use Rattle.std.proofs.Common.{◌≡◌, subst}
use Rattle.road_base.specs.declared.objects.Member.{Member}
use Rattle.touched_ways.specs.Searches.{Finds, IsWay}
use Rattle.touched_ways.proofs.FoundKeys.{finds_first, finds_next, finds_all}
use Rattle.touched_ways.proofs.found.Reached.add_member_ways.Goals as goal

pub loop-member-init : goal.loop-member-init
loop-member-init c = finds_first (λ m k. (k ≡ m.item) × IsWay k) c.args.self.now c.args.members.now

pub loop-member-preserved : goal.loop-member-preserved
loop-member-preserved c =
    let found =
    subst (λ (m : Member). Finds c.loop-member.self c.add_if_way.new.self (λ k. (k ≡ m.item) × IsWay k))
    c.member-item.is c.in_ok-add_if_way.ensures
    in
    finds_next (λ m k. (k ≡ m.item) × IsWay k) c.args.self.now c.loop-member.self c.add_if_way.new.self
    c.args.members.now c.loop-member.member-index _ c.loop-member-test.true c.loop-member.invariant found

pub returns : goal.returns
returns c =
    finds_all (λ m k. (k ≡ m.item) × IsWay k) c.args.self.now c.loop-member.self c.args.members.now
    c.loop-member.member-index c.loop-member-test.false c.loop-member.invariant
