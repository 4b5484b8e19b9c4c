use Rattle.std.proofs.Common.{List, Contains, [], subst, sym}
use Rattle.graph_blocks.specs.Lent.{map_of as block_map}
use Rattle.context_search.specs.declared.ends.Begin.{Begin}
use Rattle.context_search.specs.Sought.{AreStarts}
use Rattle.context_search.proofs.SearchTargets.{start_listed, has_targets}
use Rattle.context_search.specs.Listed.{contexts_in}
use Rattle.least_cost.specs.CostVisits.{HaveOrigins, AreBegun, AreWithin, IsFoundBy, cost_in}
use Rattle.least_cost.proofs.LeastFound.{origins_stay, all_stay, within_less, found_by}
use Rattle.least_cost.proofs.least_drives.searched.Goals as goal

pub begin-requires-clause-order : goal.begin-requires-clause-order
begin-requires-clause-order g c =
    let M = g.M.World.objects c.args.network.now.world.now in
    c.listed_contexts.ensures.order M (block_map c.args.blocks.now) c.requires.blocks

pub begin-requires-clause-listed : goal.begin-requires-clause-listed
begin-requires-clause-listed g c =
    let M = g.M.World.objects c.args.network.now.world.now in
    let P = g.P.Profile.rules c.args.network.now.profile in
    let m = block_map c.args.blocks.now in
    let starts = subst (λ (l : List Begin). AreStarts M P c.args.ends.now.a l) (sym c.deref.ensures.value)
    c.requires.ends.starts in
    start_listed M P (contexts_in m) c.args.ends.now.a c.deref.result.now
    (c.listed_contexts.ensures.spots M m c.requires.blocks) starts

pub run-requires-clause-order : goal.run-requires-clause-order
run-requires-clause-order g c =
    let M = g.M.World.objects c.args.network.now.world.now in
    c.listed_contexts.ensures.order M (block_map c.args.blocks.now) c.requires.blocks

pub run-requires-clause-targets : goal.run-requires-clause-targets
run-requires-clause-targets g c =
    let M = g.M.World.objects c.args.network.now.world.now in
    let P = g.P.Profile.rules c.args.network.now.profile in
    let m = block_map c.args.blocks.now in
    has_targets M P (contexts_in m) (c.listed_contexts.ensures.spots M m c.requires.blocks)

pub returns : goal.returns
returns g c =
    let L = contexts_in (block_map c.args.blocks.now) in
    let E = c.args.ends.now in
    let b = c.in_ok-begin.ensures in
    let m = c.begin.new.search in
    let r = c.in_ok-found.ensures in
    let n = c.run.new.search in
    let w = c.least_within-best.ensures in
    let best = c.least_within-best.result in
    let found = c.in_ok-found.found in
    record {
      listed = r.search.listed;
      origins = origins_stay m.visits n.visits r.extends E.starts.items
          (subst (λ (l : List Begin). HaveOrigins l m.visits) c.deref.ensures.value b.origins);
      begun = all_stay m.visits n.visits r.extends L E.starts.items
          (subst (λ (l : List Begin). AreBegun L l m.visits) c.deref.ensures.value b.begun);
      done = r.done;
      within = within_less E.starts.items E.goals (cost_in best) (cost_in found) r.less
          (subst (λ (l : List Begin). AreWithin l E.goals (cost_in best)) c.deref-2.ensures.value w.within);
      found = found_by E.starts.items E.goals n.visits best found
          (subst (λ (l : List Begin). IsFoundBy l E.goals [] best) c.deref-2.ensures.value w.found) r.found;
    }
