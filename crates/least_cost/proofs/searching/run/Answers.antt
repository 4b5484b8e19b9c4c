use Rattle.std.proofs.Common.{◌≡◌, Some, inl, refl, sym, subst, slice_get, Contains}
use Rattle.ordered_lists.proofs.ListMembers.{contains_none}
use Rattle.graph_blocks.specs.Lent.{map_of as block_map}
use Rattle.context_search.specs.Listed.{contexts_in}
use Rattle.least_cost.specs.CostVisits.{Extends, IsFoundAfter, cost_in}
use Rattle.least_cost.proofs.LawCosts.{at_most_trans}
use Rattle.least_cost.proofs.LeastVisits.{IsPopped, popped_visiting, popped_place, popped_extends, popped_at, passed}
use Rattle.least_cost.proofs.LeastVisits.{none_waits, extends_same, extends_again, at_most_same, found_stays}
use Rattle.least_cost.proofs.LeastVisits.{found_again}
use Rattle.least_cost.proofs.searching.run.Goals as goal

pub loop-init : goal.loop-init
loop-init c = record {
  search = c.requires.search;
  extends = extends_same c.args.search.now.visits;
  done = λ k v e. inl (c.requires.waiting k v e);
  less = at_most_same (cost_in c.args.best);
  found = inl refl;
}

pub pass-requires-clause-search : goal.pass-requires-clause-search
pass-requires-clause-search c =
    let e = c.in-Some.ensures in
    let popped : IsPopped c.loop.search c.next.new.self c.in-Some.place
    = record { visits = e.visits; waiting = e.some } in
    popped_visiting (contexts_in (block_map c.args.blocks.now)) c.loop.search c.next.new.self c.in-Some.place popped
    c.loop.invariant.search

pub pass-requires-clause-place : goal.pass-requires-clause-place
pass-requires-clause-place c =
    let e = c.in-Some.ensures in
    let popped : IsPopped c.loop.search c.next.new.self c.in-Some.place
    = record { visits = e.visits; waiting = e.some } in
    popped_place (contexts_in (block_map c.args.blocks.now)) c.loop.search c.next.new.self c.in-Some.place popped
    c.loop.invariant.search

pub loop-preserved : goal.loop-preserved
loop-preserved c =
    let L = contexts_in (block_map c.args.blocks.now) in
    let G = c.args.goals.now in
    let e = c.in-Some.ensures in
    let m = c.loop.search in
    let p = c.next.new.self in
    let n = c.pass.new.search in
    let place = c.in-Some.place in
    let popped : IsPopped m p place = record { visits = e.visits; waiting = e.some } in
    let r = c.in_ok-found.ensures in
    let old = c.loop.invariant in
    let before = c.loop.found in
    let now = c.in_ok-found.found in
    record {
      search = r.search;
      extends = extends_again c.args.search.now.visits m.visits n.visits old.extends
          (extends_again m.visits p.visits n.visits (popped_extends L m p place popped) r.grows.visits);
      done = passed L m p place popped G c.args.to (cost_in before) (cost_in now) n r.grows r.less r.done old.done;
      less = at_most_trans (cost_in now) (cost_in before) (cost_in c.args.best) r.less old.less;
      found = found_again G n.visits c.args.best before now
          (found_stays m.visits n.visits (λ k v at. r.grows.visits.stays k v (popped_at L m p place popped k v at)) G
          c.args.best before old.found) r.found;
    }

pub returns-in_default-clause-search : goal.returns-in_default-clause-search
returns-in_default-clause-search c =
    let e = c.in_default.ensures in
    let old = c.loop.invariant in
    record {
      listed = λ k v at. old.search.listed k v (subst (λ l. slice_get l k ≡ Some v) e.visits at);
      wholes = λ k v at. old.search.wholes k v (subst (λ l. slice_get l k ≡ Some v) e.visits at);
      within = λ k h. absurd (contains_none k (subst (λ l. Contains l k) e.empty h));
    }

pub returns-in_default-clause-extends : goal.returns-in_default-clause-extends
returns-in_default-clause-extends c =
    subst (λ l. Extends c.args.search.now.visits l) (sym c.in_default.ensures.visits) c.loop.invariant.extends

pub returns-in_default-clause-done : goal.returns-in_default-clause-done
returns-in_default-clause-done c =
    let e = c.in_default.ensures in
    none_waits (contexts_in (block_map c.args.blocks.now)) c.args.goals.now c.args.to (cost_in c.loop.found)
    c.loop.search c.next.new.self.visits e.visits e.none c.loop.invariant.done

pub returns-in_default-clause-less : goal.returns-in_default-clause-less
returns-in_default-clause-less c = c.loop.invariant.less

pub returns-in_default-clause-found : goal.returns-in_default-clause-found
returns-in_default-clause-found c =
    subst (λ l. IsFoundAfter c.args.goals.now l c.args.best c.loop.found) (sym c.in_default.ensures.visits)
    c.loop.invariant.found
