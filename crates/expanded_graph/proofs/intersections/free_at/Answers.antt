-- One node more was told to be free or not.
use Rattle.std.proofs.Common.{◌≡◌, ◌∷◌, List, [], length, Some, Bool, true, slice_get, get_or, sym, ap, ◌∙◌}
use Rattle.std.proofs.Common.{length-append, ◌+◌, inl, inr, subst}
use Rattle.std.proofs.lemmas.Option.{same_Some, slice_get-get_or, get_or_from_slice_get}
use Rattle.way_lines.specs.declared.node_rules.NodeRules.{NodeRules}
use Rattle.expanded_graph.specs.Intersections.{AreFree}
use Rattle.expanded_graph.proofs.Pairs.{none_stands, pushed_at}
use Rattle.expanded_graph.proofs.intersections.free_at.Goals as goal

pub are_free-requires-clause-intersection : goal.are_free-requires-clause-intersection
are_free-requires-clause-intersection g c =
    let rules = c.args.rules.now in
    let at = c.loop-at.at in
    c.requires.leaving at (get_or rules at _) c.at.result.now (slice_get-get_or rules at _ c.loop-at-test.true)
    c.at.ensures

pub loop-at-init : goal.loop-at-init
loop-at-init g c =
    let none = c.in_ok-free.ensures.items in
    record {
      count = ap length none;
      free = λ k r ds hr hd hf.
          absurd (none_stands true k (subst (λ (l : List Bool). slice_get l k ≡ Some true) none hf));
    }

pub loop-at-preserved : goal.loop-at-preserved
loop-at-preserved g c =
    let M = g.M.World.objects c.args.network.now.world.now in
    let P = g.P.Profile.rules c.args.network.now.profile in
    let m = c.args.watched.now.states.automaton in
    let facts = c.args.watched.now.states.facts.items in
    let rules = c.args.rules.now in
    let at = c.loop-at.at in
    let so_far = c.loop-at.invariant in
    let free = c.loop-at.free.items in
    let grown = c.in_ok-push.ensures.items in
    let is = c.are_free.result in
    record {
      count = ap length grown ∙ (length-append free (is ∷ []) ∙ ap (λ n. n + 1) so_far.count);
      free = λ k r ds hr hd hf. elim (pushed_at free is true k
          (subst (λ (l : List Bool). slice_get l k ≡ Some true) grown hf)) [
            | inl i ↦ so_far.free k r ds hr hd i
            | inr e ↦
                let place : k ≡ at = e.0 ∙ so_far.count in
                let rule = get_or_from_slice_get rules at r _ (subst (λ j. slice_get rules j ≡ Some r) place hr) in
                let list : c.at.result.now ≡ ds = same_Some _ _ (sym c.at.ensures
                ∙ subst (λ j. slice_get c.args.departures.now j ≡ Some ds) place hd) in
                subst (λ (x : NodeRules). AreFree M P m facts x ds) rule
                (subst (AreFree M P m facts (get_or rules at _)) list (c.are_free.ensures e.1))
          ];
    }

pub returns : goal.returns
returns g c = c.loop-at.invariant.free
