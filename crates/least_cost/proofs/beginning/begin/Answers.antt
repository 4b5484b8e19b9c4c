use Rattle.std.proofs.Common.{sym, subst, Contains}
use Rattle.std.proofs.lemmas.List.Elements.{Contains-get_or}
use Rattle.ordered_lists.proofs.ListMembers.{contains_none}
use Rattle.graph_blocks.specs.Lent.{map_of as block_map}
use Rattle.context_search.specs.declared.ends.Begin.{Begin}
use Rattle.context_search.specs.Listed.{contexts_in}
use Rattle.least_cost.proofs.LeastStarts.{start_visiting, start_origins, start_waiting, more_begun, all_begun}
use Rattle.least_cost.proofs.LeastStarts.{nothing_at}
use Rattle.least_cost.proofs.beginning.begin.Goals as goal

pub loop-start-init : goal.loop-start-init
loop-start-init c = record {
  search = record {
    listed = λ k v e. absurd (nothing_at c.args.search.now.visits k v c.requires.visits e);
    wholes = λ k v e. absurd (nothing_at c.args.search.now.visits k v c.requires.visits e);
    within = λ k h. absurd (contains_none k (subst (λ l. Contains l k) c.requires.waiting h));
  };
  origins = λ k v e. absurd (nothing_at c.args.search.now.visits k v c.requires.visits e);
  begun = λ s has. absurd (contains_none s has);
  waiting = λ k v e. absurd (nothing_at c.args.search.now.visits k v c.requires.visits e);
}

pub begin_on-requires-clause-listed : goal.begin_on-requires-clause-listed
begin_on-requires-clause-listed c =
    let s = c.start-item.result in
    let has : Contains c.args.starts.now s = subst (λ (t : Begin). Contains c.args.starts.now t) (sym c.start-item.is)
    (Contains-get_or c.args.starts.now c.loop-start.start-index s c.loop-start-test.true) in
    c.requires.listed s has

pub loop-start-preserved : goal.loop-start-preserved
loop-start-preserved c =
    let L = contexts_in (block_map c.args.blocks.now) in
    let old = c.loop-start.invariant in
    let m = c.loop-start.search in
    let n = c.begin_on.new.search in
    let s = c.start-item.result in
    let is = c.in_ok-begin_on.ensures in
    let starts = c.args.starts.now in
    let i = c.loop-start.start-index in
    let has : Contains starts s = subst (λ (t : Begin). Contains starts t) (sym c.start-item.is)
    (Contains-get_or starts i s c.loop-start-test.true) in
    record {
      search = start_visiting L s m n is old.search;
      origins = start_origins L s m n is starts has old.origins;
      begun = more_begun L s m n is starts i s c.loop-start-test.true c.start-item.is old.begun;
      waiting = start_waiting L s m n is old.waiting;
    }

pub returns-clause-begun : goal.returns-clause-begun
returns-clause-begun c = all_begun (contexts_in (block_map c.args.blocks.now)) c.args.starts.now
    c.loop-start.start-index
    c.loop-start.search.visits c.loop-start-test.false c.loop-start.invariant.begun
