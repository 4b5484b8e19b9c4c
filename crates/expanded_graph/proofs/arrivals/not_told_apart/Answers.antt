-- One arrival more was added, which isn't said to be plain.
use Rattle.std.proofs.Common.{◌≡◌, List, map, ap, ◌∙◌, subst, Contains, false}
use Rattle.std.proofs.lemmas.List.{take_all}
use Rattle.expanded_graph.specs.declared.arrivals.Incoming.{Incoming}
use Rattle.expanded_graph.specs.Arrivals.{arrival_of}
use Rattle.ordered_lists.proofs.ListMembers.{contains_none}
use Rattle.expanded_graph.proofs.Taken.{made_more, all_more}
use Rattle.expanded_graph.proofs.arrivals.not_told_apart.Goals as goal

pub loop-arrival-init : goal.loop-arrival-init
loop-arrival-init c =
    let none = c.in_ok-list.ensures.items in
    record {
      same = ap (map arrival_of) none;
      none = λ x has. absurd (contains_none x (subst (λ (l : List Incoming). Contains l x) none has));
    }

pub loop-arrival-preserved : goal.loop-arrival-preserved
loop-arrival-preserved c =
    let so_far = c.loop-arrival.list.items in
    let more = c.push.new.self.items in
    let grown = c.in_ok-push.ensures.items in
    record {
      same = made_more arrival_of so_far more c.of.result c.args.arrivals.now c.loop-arrival.arrival-index _
          c.loop-arrival-test.true grown c.of.ensures.arrival c.loop-arrival.invariant.same;
      none = all_more (λ (y : Incoming). y.is_plain ≡ false) so_far more c.of.result grown c.loop-arrival.invariant.none
          c.of.ensures.plain;
    }

pub returns-clause-arrivals : goal.returns-clause-arrivals
returns-clause-arrivals c =
    c.loop-arrival.invariant.same
    ∙ take_all c.loop-arrival.arrival-index c.args.arrivals.now c.loop-arrival-test.false

pub returns-clause-none : goal.returns-clause-none
returns-clause-none c = c.loop-arrival.invariant.none
