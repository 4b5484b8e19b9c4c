use Rattle.std.proofs.Common.{◌≡◌, ◌+◌, List, [], ◌∷◌, ◌++◌, Contains, take, refl, sym, ap, subst, ◌∙◌}
use Rattle.std.proofs.lemmas.List.{take_all, take_more}
use Rattle.road_model.specs.declared.lists.Context.{Context}
use Rattle.road_model.specs.declared.lists.PieceName.{PieceName}
use Rattle.road_model.specs.declared.lists.TurnArc.{TurnArc}
use Rattle.touched_ways.specs.Altering.{ListsArcBehind}
use Rattle.ordered_lists.proofs.ListMembers.{contains_from_in, in_get}
use Rattle.change_apply.specs.Sourcing.{AreArcsLed, AreLedBehind, LeadBehind, LeadTo}
use Rattle.change_apply.proofs.SourcedArcs.{AddsOnly, adds_more, adds_none, more_contexts, no_contexts}
use Rattle.change_apply.proofs.sources.add_contexts.Goals as goal

pub loop-context-init : goal.loop-context-init
loop-context-init c = record {
  keeps = λ w has. has;
  only = adds_none c.args.led.now.items (LeadBehind c.args.contexts.now);
  led = no_contexts c.args.others.now c.args.led.now.items;
}

pub loop-context-preserved : goal.loop-context-preserved
loop-context-preserved c =
    let contexts = c.args.contexts.now in
    let others = c.args.others.now in
    let i = c.loop-context.context-index in
    let context = c.context-item.result in
    let more = c.add_arcs.new.led.items in
    let keeps = c.in_ok-add_arcs.ensures.keeps in
    let arcs = c.arcs_at-arcs.result.now in
    let longer : take (i + 1) contexts ≡ take i contexts ++ context ∷ [] =
    take_more contexts i _ c.loop-context-test.true ∙ ap (λ x. take i contexts ++ x ∷ []) (sym c.context-item.is) in
    let led : AreArcsLed context.arcs arcs more =
    subst (λ (l : List TurnArc). AreArcsLed l arcs more) c.items.ensures c.in_ok-add_arcs.ensures.led in
    let among : (a : TurnArc) → Contains arcs a → ListsArcBehind others context.before a =
    subst (λ (l : List PieceName). (a : TurnArc) → Contains arcs a → ListsArcBehind others l a) c.items-before.ensures
    c.arcs_at-arcs.ensures in
    let listed : Contains contexts context =
    subst (Contains contexts) (sym c.context-item.is)
    (contains_from_in contexts _ (in_get contexts i _ c.loop-context-test.true)) in
    let only : AddsOnly c.loop-context.led.items more (LeadTo context.arcs) =
    subst (λ (l : List TurnArc). AddsOnly c.loop-context.led.items more (LeadTo l)) c.items.ensures
    c.in_ok-add_arcs.ensures.only in
    record {
      keeps = λ w has. keeps w (c.loop-context.invariant.keeps w has);
      only = adds_more c.args.led.now.items c.loop-context.led.items more (LeadBehind contexts) (LeadTo context.arcs)
          c.loop-context.invariant.only only
          (λ w x. (context.before, x.0, record { context = context; listed = listed; behind = refl; arc = x.1 }, x.2));
      led =
          subst (λ (l : List Context). AreLedBehind l others more) (sym longer)
          (more_contexts (take i contexts) others c.loop-context.led.items more context arcs
          c.loop-context.invariant.led keeps led among);
    }

pub returns-clause-only : goal.returns-clause-only
returns-clause-only c = c.loop-context.invariant.only

pub returns-clause-led : goal.returns-clause-led
returns-clause-led c =
    subst (λ (l : List Context). AreLedBehind l c.args.others.now c.loop-context.led.items)
    (take_all c.loop-context.context-index c.args.contexts.now c.loop-context-test.false) c.loop-context.invariant.led
