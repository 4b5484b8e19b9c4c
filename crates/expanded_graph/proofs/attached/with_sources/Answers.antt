-- One context more was written with the sources that lead there, and all were at the end.
use Rattle.std.proofs.Common.{◌≡◌, ◌++◌, [], List, refl, sym, subst, ap, ◌∙◌, append-nil, arith}
use Rattle.std.proofs.lemmas.List.{nil_from_length}
use Rattle.std.proofs.lemmas.List.Sorted.{Contains-permutation, IsPermutation-sym}
use Rattle.road_model.specs.declared.lists.Context.{Context}
use Rattle.road_model.specs.Orders.{names_cmp}
use Rattle.ordered_lists.specs.Orders.{Lists}
use Rattle.expanded_graph.specs.Contexts.{IsBareContext}
use Rattle.expanded_graph.specs.Sources.{AreLeadingBy}
use Rattle.ordered_lists.proofs.ListMembers.{In}
use Rattle.expanded_graph.proofs.SourceContexts.{names_of, all_written}
use Rattle.expanded_graph.proofs.SourceLists.{sources_to}
use Rattle.expanded_graph.proofs.SourceWritten.{written_more}
use Rattle.expanded_graph.proofs.attached.with_sources.Goals as goal

pub loop-context-init : goal.loop-context-init
loop-context-init g c =
    let none = c.in_ok-list.ensures.items in
    record { cut = refl; names = ap names_of none; each = λ p bare leads e i. absurd (subst (In e) none i) }

pub loop-context-preserved : goal.loop-context-preserved
loop-context-preserved g c =
    let M = g.M.World.objects c.args.network.now.world.now in
    let P = g.P.Profile.rules c.args.network.now.profile in
    let order = c.name_order.ensures in
    written_more M P (c.one_name.ensures.pieces M) order.lists order.list_ties c.sort_by_source.new.list.items
    c.sort_by_target.new.list.items c.in_ok-sort_by_source.ensures.ascending c.in_ok-sort_by_target.ensures.stable
    c.into_iter-context-iterator.result.rest.items c.loop-context.yielded c.loop-context.context-iterator.rest.items
    c.next.new.self.rest.items c.loop-context.list.items c.push.new.self.items c.in-Some.context _
    c.loop-context.invariant c.in-Some.ensures.steps.0 refl refl
    (c.from_list.ensures ∙ (c.in_ok-sources.ensures
    ∙ ap (sources_to c.in-Some.context.before) c.as_slice.ensures.value))
    c.in_ok-push.ensures.items

pub loop-context-preserved-in_ok-push : goal.loop-context-preserved-in_ok-push
loop-context-preserved-in_ok-push g c =
    let M = g.M.World.objects c.args.network.now.world.now in
    let P = g.P.Profile.rules c.args.network.now.profile in
    let order = c.name_order.ensures in
    written_more M P (c.one_name.ensures.pieces M) order.lists order.list_ties c.sort_by_source.new.list.items
    c.sort_by_target.new.list.items c.in_ok-sort_by_source.ensures.ascending c.in_ok-sort_by_target.ensures.stable
    c.into_iter-context-iterator.result.rest.items c.loop-context.yielded c.loop-context.context-iterator.rest.items
    c.next.new.self.rest.items c.loop-context.list.items c.push.new.self.items c.in-Some.context _
    c.loop-context.invariant c.in-Some.ensures.steps.0 refl refl
    (c.from_list.ensures ∙ (c.in_ok-sources.ensures
    ∙ ap (sources_to c.in-Some.context.before) c.as_slice.ensures.value))
    c.in_ok-push.ensures.items

pub returns-clause-listed : goal.returns-clause-listed
returns-clause-listed g c = λ p bare leads.
    let M = g.M.World.objects c.args.network.now.world.now in
    let P = g.P.Profile.rules c.args.network.now.profile in
    let list = c.args.contexts.items in
    let sorted = c.sort_by_source.new.list.items in
    let again = c.sort_by_target.new.list.items in
    let exactly = c.in_ok-sort_by_source.ensures.exactly in
    let moved = c.in_ok-sort_by_target.ensures.same in
    let leading : AreLeadingBy M P p again = λ l. (
      λ has. (leads l).0
          ((exactly l).0 (Contains-permutation again sorted l (IsPermutation-sym sorted again moved) has)),
      λ is. Contains-permutation sorted again l moved ((exactly l).1 ((leads l).1 is)),
    ) in
    let given = c.into_iter-context-iterator.ensures.into_iter_gives.0 in
    let none : c.loop-context.context-iterator.rest.items ≡ [] = nil_from_length _ (omega (
      arith,
      c.in-None.ensures.steps.0,
      c.loop-context.context-iterator.rest.ok,
    )) in
    let all : c.loop-context.yielded ≡ list =
    sym (sym given ∙ c.loop-context.invariant.cut
    ∙ ap (λ l. c.loop-context.yielded ++ l) none ∙ append-nil c.loop-context.yielded) in
    let ours = subst (λ (l : List Context). Lists (λ c. c.before) names_cmp (IsBareContext M P p) l) (sym given) bare in
    all_written M P (c.one_name.ensures.pieces M) c.name_order.ensures.names c.name_order.ensures.lists p list
    c.loop-context.list.items bare (c.loop-context.invariant.names ∙ ap names_of all)
    (c.loop-context.invariant.each p ours leading)

pub returns-clause-names : goal.returns-clause-names
returns-clause-names g c =
    let given = c.into_iter-context-iterator.ensures.into_iter_gives.0 in
    let none : c.loop-context.context-iterator.rest.items ≡ [] = nil_from_length _ (omega (
      arith,
      c.in-None.ensures.steps.0,
      c.loop-context.context-iterator.rest.ok,
    )) in
    let all : c.loop-context.yielded ≡ c.args.contexts.items =
    sym (sym given ∙ c.loop-context.invariant.cut
    ∙ ap (λ l. c.loop-context.yielded ++ l) none ∙ append-nil c.loop-context.yielded) in
    c.loop-context.invariant.names ∙ ap names_of all
