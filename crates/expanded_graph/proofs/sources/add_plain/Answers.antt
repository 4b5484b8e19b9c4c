-- The arc by the departure from the piece alone is kept, which is the only context that ends with the piece.
use Rattle.std.proofs.Common.{◌≡◌, ◌≤◌, ◌-◌, [], ◌∷◌, drop, length, refl, sym, ap, ◌∙◌, subst}
use Rattle.road_model.specs.declared.lists.TurnArc.{TurnArc}
use Rattle.way_pieces.specs.Names.{piece_of}
use Rattle.expanded_graph.proofs.SourceArcs.{some_piece, so_many, gains_one, gains_none}
use Rattle.expanded_graph.proofs.SourcePlain.{behind_alone, some_holds, none_holds}
use Rattle.expanded_graph.proofs.sources.add_plain.Goals as goal

pub overflow_sub-arc : goal.overflow_sub-arc
overflow_sub-arc g c =
    let M = g.M.World.objects c.args.network.now.world.now in
    let P = g.P.Profile.rules c.args.network.now.profile in
    let i = c.args.intersection in
    let q = piece_of c.args.arrival.span in
    let d = c.requires.intersection.leaving.sound c.args.onward.departure c.requires.departure in
    let named : c.in-Some.arc.piece ≡ c.args.onward.departure.piece =
    some_holds c.args.onward.arc (λ (a : TurnArc). a.piece ≡ c.args.onward.departure.piece) c.in-Some.arc c.in-Some.is
    c.requires.onward.named in
    let reached = c.requires.plain.reached c.args.arrival.from i.rules.node c.requires.arrival.arrives in
    let entry = some_holds c.args.onward.arc _ c.in-Some.arc c.in-Some.is c.requires.onward.arc c.args.arrival.from
    (q ∷ []) c.requires.follows reached in
    some_piece M P (q ∷ []) d.piece (c.one_name.ensures.pieces M) d.is c.in-Some.arc entry (named ∙ d.named)
    (c.args.arrival.span.name ∷ []) refl

pub last_names-requires : goal.last_names-requires
last_names-requires g c =
    let M = g.M.World.objects c.args.network.now.world.now in
    let P = g.P.Profile.rules c.args.network.now.profile in
    let i = c.args.intersection in
    let q = piece_of c.args.arrival.span in
    let d = c.requires.intersection.leaving.sound c.args.onward.departure c.requires.departure in
    let named : c.in-Some.arc.piece ≡ c.args.onward.departure.piece =
    some_holds c.args.onward.arc (λ (a : TurnArc). a.piece ≡ c.args.onward.departure.piece) c.in-Some.arc c.in-Some.is
    c.requires.onward.named in
    let reached = c.requires.plain.reached c.args.arrival.from i.rules.node c.requires.arrival.arrives in
    let entry = some_holds c.args.onward.arc _ c.in-Some.arc c.in-Some.is c.requires.onward.arc c.args.arrival.from
    (q ∷ []) c.requires.follows reached in
    subst (λ names. c.in-Some.arc.length - 1 ≤ length names) (sym (c.items.ensures ∙ c.one-source.ensures))
    (so_many M P (q ∷ []) d.piece (c.one_name.ensures.pieces M) d.is c.in-Some.arc entry (named ∙ d.named)
    (c.args.arrival.span.name ∷ []) refl)

pub returns : goal.returns
returns g c = λ p is by.
    let M = g.M.World.objects c.args.network.now.world.now in
    let P = g.P.Profile.rules c.args.network.now.profile in
    let i = c.args.intersection in
    let q = piece_of c.args.arrival.span in
    let named : c.in-Some.arc.piece ≡ c.args.onward.departure.piece =
    some_holds c.args.onward.arc (λ (a : TurnArc). a.piece ≡ c.args.onward.departure.piece) c.in-Some.arc c.in-Some.is
    c.requires.onward.named in
    let reached = c.requires.plain.reached c.args.arrival.from i.rules.node c.requires.arrival.arrives in
    let entry = some_holds c.args.onward.arc _ c.in-Some.arc c.in-Some.is c.requires.onward.arc c.args.arrival.from
    (q ∷ []) c.requires.follows reached in
    behind_alone M P q p c.requires.plain.alone c.args.list.now.items c.push.new.self.items
    (gains_one M P (q ∷ []) p (c.one_name.ensures.pieces M) is c.in-Some.arc entry (named ∙ by)
    c.one-source.result c.one-source.ensures _
    (c.in_ok-before.ensures ∙ ap (λ n. drop (length n - (c.in-Some.arc.length - 1)) n) c.items.ensures) refl
    (c.contexts.ensures.one M) c.args.list.now.items c.push.new.self.items c.in_ok-push.ensures.items)

pub returns-in_default : goal.returns-in_default
returns-in_default g c = λ p is by.
    let M = g.M.World.objects c.args.network.now.world.now in
    let P = g.P.Profile.rules c.args.network.now.profile in
    let i = c.args.intersection in
    let q = piece_of c.args.arrival.span in
    let reached = c.requires.plain.reached c.args.arrival.from i.rules.node c.requires.arrival.arrives in
    let none = none_holds c.args.onward.arc _ (λ x e. c.in_default.not-Some x e) c.requires.onward.none in
    behind_alone M P q p c.requires.plain.alone c.args.list.now.items c.args.list.now.items
    (gains_none M P (q ∷ []) p (λ a e same. none c.args.arrival.from (q ∷ []) a reached e (same ∙ sym by))
    c.args.list.now.items c.args.list.now.items refl)
