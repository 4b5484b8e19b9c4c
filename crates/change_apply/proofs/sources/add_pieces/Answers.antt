use Rattle.std.proofs.Common.{◌≡◌, ◌+◌, List, [], ◌∷◌, ◌++◌, Contains, take, refl, sym, ap, subst, ◌∙◌}
use Rattle.std.proofs.lemmas.List.{take_all, take_more}
use Rattle.road_model.specs.declared.lists.Context.{Context}
use Rattle.road_model.specs.declared.lists.Piece.{Piece}
use Rattle.ordered_lists.proofs.ListMembers.{contains_from_in, in_get}
use Rattle.change_apply.specs.Sourcing.{AreLed, AreLedBehind, LeadBehind, ListArcTo}
use Rattle.change_apply.proofs.SourcedArcs.{AddsOnly, adds_more, adds_none, more_pieces, no_pieces}
use Rattle.change_apply.proofs.sources.add_pieces.Goals as goal

pub loop-piece-init : goal.loop-piece-init
loop-piece-init c = record {
  keeps = λ w has. has;
  only = adds_none c.args.led.now.items (ListArcTo c.args.pieces.now);
  led = no_pieces c.args.others.now c.args.led.now.items;
}

pub loop-piece-preserved : goal.loop-piece-preserved
loop-piece-preserved c =
    let pieces = c.args.pieces.now in
    let others = c.args.others.now in
    let i = c.loop-piece.piece-index in
    let piece = c.piece-item.result in
    let more = c.add_contexts.new.led.items in
    let keeps = c.in_ok-add_contexts.ensures.keeps in
    let contexts = c.contexts_at-contexts.result.now in
    let longer : take (i + 1) pieces ≡ take i pieces ++ piece ∷ [] =
    take_more pieces i _ c.loop-piece-test.true ∙ ap (λ x. take i pieces ++ x ∷ []) (sym c.piece-item.is) in
    let led : AreLedBehind piece.contexts contexts more =
    subst (λ (l : List Context). AreLedBehind l contexts more) c.items.ensures c.in_ok-add_contexts.ensures.led in
    let listed : Contains pieces piece =
    subst (Contains pieces) (sym c.piece-item.is)
    (contains_from_in pieces _ (in_get pieces i _ c.loop-piece-test.true)) in
    let only : AddsOnly c.loop-piece.led.items more (LeadBehind piece.contexts) =
    subst (λ (l : List Context). AddsOnly c.loop-piece.led.items more (LeadBehind l)) c.items.ensures
    c.in_ok-add_contexts.ensures.only in
    record {
      keeps = λ w has. keeps w (c.loop-piece.invariant.keeps w has);
      only = adds_more c.args.led.now.items c.loop-piece.led.items more (ListArcTo pieces) (LeadBehind piece.contexts)
          c.loop-piece.invariant.only only
          (λ w x. (piece.name, x.0, x.1, record { piece = piece; listed = listed; named = refl; arc = x.2 }, x.3));
      led =
          subst (λ (l : List Piece). AreLed l others more) (sym longer)
          (more_pieces (take i pieces) others c.loop-piece.led.items more piece contexts c.loop-piece.invariant.led
          keeps
          led c.contexts_at-contexts.ensures);
    }

pub returns-clause-only : goal.returns-clause-only
returns-clause-only c = c.loop-piece.invariant.only

pub returns-clause-led : goal.returns-clause-led
returns-clause-led c =
    subst (λ (l : List Piece). AreLed l c.args.others.now c.loop-piece.led.items)
    (take_all c.loop-piece.piece-index c.args.pieces.now c.loop-piece-test.false) c.loop-piece.invariant.led
