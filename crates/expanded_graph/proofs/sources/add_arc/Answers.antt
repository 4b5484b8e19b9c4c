-- The arc by the departure is kept by the names of its target and of the context from which it comes.
use Rattle.std.proofs.Common.{◌≤◌, ◌-◌, drop, length, refl, sym, ap, ◌∙◌, subst}
use Rattle.expanded_graph.proofs.SourceArcs.{some_piece, so_many, gains_one, gains_none}
use Rattle.expanded_graph.proofs.sources.add_arc.Goals as goal

pub overflow_sub-arc : goal.overflow_sub-arc
overflow_sub-arc g c =
    let M = g.M.World.objects c.args.coming.now.network.now.world.now in
    let P = g.P.Profile.rules c.args.coming.now.network.now.profile in
    let d = c.requires.coming.intersection.leaving.sound c.args.departure c.requires.departure in
    let from = c.requires.reached in
    let a = c.in-Some.ensures in
    some_piece M P from.0 d.piece (c.one_name.ensures.pieces M) d.is c.in-Some.arc (a.arc from.0 from.1)
    (a.named ∙ d.named) c.args.names from.2

pub last_names-requires : goal.last_names-requires
last_names-requires g c =
    let M = g.M.World.objects c.args.coming.now.network.now.world.now in
    let P = g.P.Profile.rules c.args.coming.now.network.now.profile in
    let d = c.requires.coming.intersection.leaving.sound c.args.departure c.requires.departure in
    let from = c.requires.reached in
    let a = c.in-Some.ensures in
    subst (λ names. c.in-Some.arc.length - 1 ≤ length names) (sym c.items.ensures)
    (so_many M P from.0 d.piece (c.one_name.ensures.pieces M) d.is c.in-Some.arc (a.arc from.0 from.1)
    (a.named ∙ d.named) c.args.names from.2)

pub returns-in_ok-push : goal.returns-in_ok-push
returns-in_ok-push g c = λ from p reached names is named.
    let M = g.M.World.objects c.args.coming.now.network.now.world.now in
    let P = g.P.Profile.rules c.args.coming.now.network.now.profile in
    let a = c.in-Some.ensures in
    gains_one M P from p (c.one_name.ensures.pieces M) is c.in-Some.arc (a.arc from reached) (a.named ∙ named)
    c.args.names names _
    (c.in_ok-before.ensures ∙ ap (λ n. drop (length n - (c.in-Some.arc.length - 1)) n) c.items.ensures) refl
    (c.contexts.ensures.one M) c.args.list.now.items c.push.new.self.items c.in_ok-push.ensures.items

pub returns-in_default : goal.returns-in_default
returns-in_default g c = λ from p reached names is named.
    let M = g.M.World.objects c.args.coming.now.network.now.world.now in
    let P = g.P.Profile.rules c.args.coming.now.network.now.profile in
    gains_none M P from p (λ a e by. c.in_default.ensures.none from a reached e (by ∙ sym named))
    c.args.list.now.items c.args.list.now.items refl
