-- One state more was passed on the way to the first one.
use Rattle.std.proofs.Common.{◌≡◌, [], ◌∷◌, ◌++◌, reverse, Some, None, sym, ap, ◌∙◌, subst, arith}
use Rattle.std.proofs.lemmas.List.{reverse-append}
use Rattle.ordered_lists.proofs.ListPlaces.{read_at, some_at, one_stands}
use Rattle.expanded_graph.proofs.NamesBefore.{Path, path_start, path_more, names_along}
use Rattle.expanded_graph.proofs.names.names_before.Goals as goal
use Rattle.expanded_graph.proofs.names.names_before.Goals.{in-Some+in_ok-push, in_default}

pub loop-at-init : goal.loop-at-init
loop-at-init g c =
    let M = g.M.World.objects c.args.network.now.world.now in
    let P = g.P.Profile.rules c.args.network.now.profile in
    let m = c.args.states.now.automaton in
    let facts = c.args.states.now.facts.items in
    record {
      within = omega (arith, c.edge-before.ensures.less, c.requires.state);
      path = λ closed w known q at. subst (Path M P m facts closed w known q c.edge-before.result.0)
          (sym c.new-names.ensures.items) (path_start M P m facts closed w known q c.edge-before.result.0 at);
    }

pub loop-at-preserved : goal.loop-at-preserved
loop-at-preserved g c =
    let M = g.M.World.objects c.args.network.now.world.now in
    let P = g.P.Profile.rules c.args.network.now.profile in
    let m = c.args.states.now.automaton in
    let facts = c.args.states.now.facts.items in
    let k = c.loop-at.at in
    let f = c.index.result.now in
    let to = c.edge-before-in-loop-at.result.0 in
    let names = c.loop-at.names.items in
    let low = c.loop-at.invariant.within in
    let less = c.edge-before-in-loop-at.ensures.less in
    let is = read_at facts k f (omega (arith, c.requires.count)) c.index.ensures in
    record {
      within = omega arith;
      path = λ closed w known q at.
          let so_far = c.loop-at.invariant.path closed w known q at in
          elim c.match-index.branch [
            | in-Some+in_ok-push v ↦
                let grown = ap (λ l. l.items) v.names-is ∙ v.in_ok-push.ensures.items in
                path_more M P m facts closed w known q k names so_far to c.edge-before-in-loop-at.result.1
                c.edge-before-in-loop-at.ensures.is less f is c.match-index.names.items (Some v.in-Some.name)
                v.in-Some.is (ap reverse grown ∙ reverse-append names (v.in-Some.name ∷ []))
            | in_default v ↦
                path_more M P m facts closed w known q k names so_far to c.edge-before-in-loop-at.result.1
                c.edge-before-in-loop-at.ensures.is less f is c.match-index.names.items None v.in_default.is
                (ap (λ l. reverse l.items) v.names-is)
          ];
    }

pub returns : goal.returns
returns g c = λ w before p q known pieces turn at.
    let M = g.M.World.objects c.args.network.now.world.now in
    let P = g.P.Profile.rules c.args.network.now.profile in
    let m = c.args.states.now.automaton in
    let facts = c.args.states.now.facts.items in
    let closed = c.closed.ensures.closed in
    let e = c.edge-before.result in
    let b = some_at m.states e.0 (omega (arith, c.edge-before.ensures.less, c.requires.state)) in
    let split = one_stands m.states c.args.state.0 q (b.0 ++ e.1 ∷ []) at (c.edge-before.ensures.is b.0 b.1) in
    let root : c.loop-at.at ≡ 0 = omega (arith, c.loop-at-test.false) in
    let path = subst (λ k. Path M P m facts closed w known b.0 k c.loop-at.names.items) root
    (c.loop-at.invariant.path closed w known b.0 b.1) in
    c.reverse.ensures.items ∙ names_along M P m facts closed w known (c.context_steps.ensures.names M) before p q b.0
    e.1 c.args.state.0 c.loop-at.names.items pieces turn at split path
