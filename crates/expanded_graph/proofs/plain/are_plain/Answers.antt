-- One more that may go on is plain.
use Rattle.std.proofs.Common.{List, take, get_or, pos, sym, ◌∙◌, subst, IsTrue, inl, inr, false}
use Rattle.std.proofs.lemmas.Bool.{false≢true}
use Rattle.std.proofs.lemmas.List.{take_more, take_all}
use Rattle.road_base.specs.declared.ids.Dir.TheVariants.{Forward}
use Rattle.expanded_graph.specs.declared.arrivals.Incoming.{Incoming}
use Rattle.expanded_graph.specs.Intersections.{may_follow}
use Rattle.ordered_lists.proofs.ListMembers.{In, push_cases, in_from_contains}
use Rattle.expanded_graph.proofs.plain.are_plain.Goals as goal
use Rattle.expanded_graph.proofs.plain.are_plain.Goals.{
  else-not-incoming-via-then-not-incoming+else-may_follow,
  else-not-incoming-via-else-not-incoming,
}

abbrev none : Incoming
none = record {
  way = record { 0 = pos 0 };
  from = record { 0 = pos 0 };
  index = 0;
  end = 0;
  dir = Forward;
  is_plain = false;
}

pub loop-incoming-preserved : goal.loop-incoming-preserved
loop-incoming-preserved c = λ e among follows.
    let cs = c.args.meeting.now.arrivals.now in
    let i = c.args.meeting.now.intersection in
    let d = c.args.departure in
    let n = c.loop-incoming.incoming-index in
    let x = get_or cs n none in
    let there = subst (λ (l : List Incoming). In e l) (take_more cs n none c.loop-incoming-test.true) among in
    elim (push_cases (take n cs) x e there) [
      | inl j ↦ c.loop-incoming.invariant e j follows
      | inr same ↦ subst (λ (y : Incoming). IsTrue y.is_plain) (sym same) (elim c.else-not-incoming.branch [
        | else-not-incoming-via-then-not-incoming+else-may_follow w ↦
            let may = subst (λ (y : Incoming). IsTrue (may_follow i y.from d)) same follows in
            absurd (false≢true (sym w.if-may_follow.false ∙ (w.may_follow.ensures ∙ may)))
        | else-not-incoming-via-else-not-incoming w ↦ w.if-not-incoming.false
      ])
    ]

pub returns : goal.returns
returns c = λ t e has follows.
    let cs = c.args.meeting.now.arrivals.now in
    c.loop-incoming.invariant e
    (subst (In e) (sym (take_all c.loop-incoming.incoming-index cs c.loop-incoming-test.false))
    (in_from_contains cs e has)) follows
