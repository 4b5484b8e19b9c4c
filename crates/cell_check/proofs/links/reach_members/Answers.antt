use Rattle.std.proofs.Common.{◌≡◌, subst}
use Rattle.road_base.specs.declared.objects.Member.{Member}
use Rattle.cell_check.specs.Searches.{Finds, FromStart, IsNodeOrWay}
use Rattle.cell_check.proofs.FoundKeys.{finds_first, finds_next, finds_all, finds_given}
use Rattle.cell_check.proofs.links.reach_members.Goals as goal

pub loop-member-init : goal.loop-member-init
loop-member-init c =
    finds_first (λ m. FromStart c.args.start (λ k. (k ≡ m.item) × IsNodeOrWay k)) c.args.search.now c.args.members.now

pub loop-member-preserved : goal.loop-member-preserved
loop-member-preserved c =
    let found =
    subst (λ (m : Member). Finds c.loop-member.search c.reach_node_or_way.new.search
    (FromStart c.args.start (λ k. (k ≡ m.item) × IsNodeOrWay k)))
    c.member-item.is c.in_ok-reach_node_or_way.ensures
    in
    finds_next (λ m. FromStart c.args.start (λ k. (k ≡ m.item) × IsNodeOrWay k)) c.args.search.now
    c.loop-member.search c.reach_node_or_way.new.search c.args.members.now c.loop-member.member-index _
    c.loop-member-test.true c.loop-member.invariant found

pub returns : goal.returns
returns c =
    finds_given (λ m k. (k ≡ m.item) × IsNodeOrWay k) c.args.start c.args.search.now c.loop-member.search
    c.args.members.now
    (finds_all (λ m. FromStart c.args.start (λ k. (k ≡ m.item) × IsNodeOrWay k)) c.args.search.now
    c.loop-member.search c.args.members.now c.loop-member.member-index c.loop-member-test.false
    c.loop-member.invariant)
